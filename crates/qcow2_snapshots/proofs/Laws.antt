-- Laws of the walk over the snapshot table.
-- Assumes nothing.
use Prim.Native.Nat.{ℕ, suc, ◌+◌, ◌-◌, ◌*◌, ◌%◌, ◌≤◌, ◌<◌}
use native.Mathlib.Nat.{zero-lt-suc}
use native.Mathlib.Omega.{arith}
use mathlib.Core.Path.{◌≡◌, refl}
use mathlib.Core.Bool.{Bool, true, false, not, ◌||◌}
use mathlib.Core.List.{List}
use borrow.Author.Tests.{lt-ltb, le-ltb, ltb-false}
use lib.Dec.{ltb, eqb}
use lib.ListN.{length}
use Rattle.choice.specs.Pick.{first}
use Rattle.choice.proofs.Searches.{first_turn, first-none}
use Rattle.choice.proofs.Tests.{or-false}
use Rattle.endian.specs.Big.{be16, be32, be64}
use Rattle.qcow2_spec.specs.Header.{most_l1, cluster_size, entry_end, snapshots_at, snapshot_at, root_size, root_at, bad_snapshot}
use Rattle.qcow2_spec.proofs.Facts.{up_le}
use Rattle.qcow2_snapshots.specs.Entry.{bad_root, bad_entry}

-- ---- one entry
-- it has its fixed bytes
pub entry-long : (s : List ℕ) (p : ℕ) → p + 40 ≤ entry_end s p
unfolding entry_end
entry-long s p = omega (arith, up_le (40 + be32 s (p + 36) + be16 s (p + 12) + be16 s (p + 14)) 8 (zero-lt-suc 7))

-- one whose fixed bytes run past n runs past n
pub entry_past : (C : ℕ) (s : List ℕ) (p : ℕ) → length s < p + 40 → true ≡ bad_entry C s p
unfolding bad_entry
entry_past C s p h = rw (lt-ltb (length s) (entry_end s p) (omega (arith, entry-long s p)))

-- one that is not bad can be read
pub entry_read : (C : ℕ) (s : List ℕ) (p : ℕ) → bad_entry C s p ≡ false → p + 40 ≤ length s
unfolding bad_entry
entry_read C s p h = omega (arith, entry-long s p, ltb-false (length s) (entry_end s p) (or-false (ltb (length s) (entry_end s p)) (bad_root C s p) h).0)

four : (a b c d : Bool) → (a || b || c || d) ≡ (a || (b || (c || d)))
four true b c d = refl
four false true c d = refl
four false false c d = refl

-- ---- the entries, one after the other
pub snapshot_first : (s : List ℕ) → snapshots_at s ≡ snapshot_at s 0
unfolding snapshot_at
snapshot_first s = refl

pub snapshot_next : (s : List ℕ) (k : ℕ) → entry_end s (snapshot_at s k) ≡ snapshot_at s (k + 1)
unfolding snapshot_at
snapshot_next s k = let e : k + 1 ≡ suc k = omega arith in rw e

pub snapshot_bad : (C : ℕ) (s : List ℕ) (k : ℕ) → cluster_size s ≡ C → bad_snapshot s k ≡ bad_entry C s (snapshot_at s k)
unfolding bad_snapshot bad_entry bad_root snapshot_at root_size root_at
snapshot_bad C s k e =
    let l : ℕ = be32 s (snapshot_at s k + 8) in
    let p : ℕ = be64 s (snapshot_at s k) in
    rw (← e) (four (ltb (length s) (entry_end s (snapshot_at s k))) (ltb most_l1 l) (not (eqb (p % cluster_size s) 0)) (ltb (length s) (p + 8 * l)))

-- ---- a search for a bad one: after one that is good, at one that is bad, and at the end
module _ (p : ℕ → Bool) (k n f : ℕ) (left : first p k (n - k) ≡ f) where
  pub search_next : k < n → p k ≡ false → first p (k + 1) (n - (k + 1)) ≡ f
  search_next h e = rw (first_turn p k n h, e) at left

  pub search_stop : k < n → p k ≡ true → true ≡ ltb f n
  search_stop h e = let i : k ≡ f = rw (first_turn p k n h, e) at left in rw (lt-ltb f n (omega arith))

  pub search_done : n ≤ k → false ≡ ltb f n
  search_done h = let i : k ≡ f = rw (first-none p k n h) at left in rw (le-ltb f n (omega arith))
