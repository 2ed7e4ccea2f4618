-- The rules of the refcount table's entries, and the numbers one after another, as the code goes through them. Assumes nothing.
use Rattle.std.specs.Prelude.{if◌then◌else◌}
use Prim.Native.Nat.{ℕ, zero, suc, ◌+◌, ◌-◌, ◌*◌, ◌/◌, ◌^◌, ◌≤◌}
use native.Mathlib.Nat.{mul_assoc}
use mathlib.Core.Path.{◌≡◌, refl, sym, ap}
use mathlib.Core.Bool.{Bool, true, false, not, ◌||◌}
use mathlib.Core.List.{List, [], ◌∷◌}
use lib.Dec.{ltb}
use lib.ListN.{length, take, drop}
use borrow.Author.Tests.{ltb-false}
use Rattle.choice.specs.Pick.{unless, all}
use Rattle.choice.proofs.Tests.{if_zero, or-false}
use Rattle.endian.proofs.Entries.{part-rest, be64-drop}
use Rattle.qcow2_spec.specs.Header.{least_length, cluster_size, per_table, per_block, table, block_at, backing_number, snapshot_number, header_number}
use Rattle.qcow2_spec.specs.Opened.{geometry}
use Rattle.qcow2_spec.specs.declared.Geometry.{Geometry}
use Rattle.qcow2_spec.proofs.Facts.{unless-zero}
use Rattle.qcow2_backing.specs.Backing.{bad_backing}
use Rattle.qcow2_longer.specs.Extend.{bad_old, old_blocks, new_blocks, new_place, to_make, good_new, good_longer, longer_number, extend_number}
use Rattle.qcow2_taken.specs.Taking.{bad_length, new_at, good_entries, bad_from, later_number, Held}
use Rattle.qcow2_taken.proofs.Spans.{is-counts, is-cluster}

all_same : (p q : ℕ → Bool) → ((i : ℕ) → p i ≡ q i) → (l : List ℕ) → all p l ≡ all q l
all_same p q h [] = refl
all_same p q h (x ∷ l) = rw (h x, all_same p q h l)

-- ---- 10: the entries, and the old length before them
module _ (g : Geometry) (s : List ℕ) (h : Held g s) where
  is : g ≡ geometry s 0
  is = h.placed.read.is

  new_is : (i : ℕ) → new_at (drop g.tableat s) (2 ^ (g.bits + 3 - g.order) * 2 ^ g.bits) i ≡ good_new s i
  unfolding good_new to_make new_place block_at geometry
  new_is i =
      let e : i * (2 ^ (g.bits + 3 - g.order) * 2 ^ g.bits) ≡ i * per_block s * cluster_size s = rw (is-counts g s h, is-cluster g s h) (sym (mul_assoc i _ _)) in
      rw (be64-drop, e, ap (λ (x : Geometry). x.tableat) is)

  pub entries_from : (from p a span : ℕ) → p ≡ 2 ^ g.bits → a ≡ g.tableat → span ≡ 2 ^ (g.bits + 3 - g.order) * 2 ^ g.bits
      → not (good_entries (2 ^ g.bits) (length s) from g.blocks span (g.tableclusters * (p / 8)) (take (length s - a) (drop a s))) ≡ bad_from s from
  unfolding good_entries bad_from geometry table per_table cluster_size
  entries_from from p a span q f e =
      rw (part-rest, q, f, e, all_same _ (good_new s) new_is, is)

  pub longer-is : (old : ℕ) → longer_number s old ≡ (if bad_length (2 ^ g.bits) (length s) old || bad_from s (old_blocks s old) then 10 else 0)
  unfolding longer_number bad_old bad_length good_longer new_blocks bad_from
  longer-is old = rw (is-cluster g s h)

-- ---- 19, then 21
pub later_backing : (s : List ℕ) → bad_backing true s ≡ true → 19 ≡ later_number s
unfolding later_number backing_number bad_backing
later_backing s e = rw e

pub later_snapshots : (s : List ℕ) → bad_backing true s ≡ false → snapshot_number s ≡ later_number s
unfolding later_number backing_number bad_backing
later_snapshots s e = rw e

-- ---- all of them
number-first : (k r : ℕ) → (k ≡ 0 → ⊥) → k ≡ unless k (λ n. n) r
number-first zero r h = absurd (h refl)
number-first (suc k) r h = refl

module _ (s : List ℕ) (old : ℕ) where
  pub extend_header : (header_number s ≡ 0 → ⊥) → header_number s ≡ extend_number s old
  unfolding extend_number
  extend_header h = number-first (header_number s) _ h

  pub extend_longer : header_number s ≡ 0 → (longer_number s old ≡ 0 → ⊥) → longer_number s old ≡ extend_number s old
  unfolding extend_number
  extend_longer e h = rw e (number-first (longer_number s old) _ h)

  pub extend_later : header_number s ≡ 0 → longer_number s old ≡ 0 → later_number s ≡ extend_number s old
  unfolding extend_number later_number
  extend_later e f = rw (e, f)

  -- what 0 shows
  pub extend_zero : extend_number s old ≡ 0 → (header_number s ≡ 0) × (old ≤ length s)
  unfolding extend_number longer_number bad_old
  extend_zero e =
      let a = unless-zero (header_number s) (unless (longer_number s old) (λ k. k) (unless (backing_number true s) (λ k. k) (snapshot_number s))) e in
      let b = unless-zero (longer_number s old) (unless (backing_number true s) (λ k. k) (snapshot_number s)) a.1 in
      let c = or-false (bad_old s old) _ (if_zero (bad_old s old || not (good_longer s old)) 9 0 b.0).0 in
      let t1 = ltb old least_length in
      let t2 = ltb (length s) old in
      (a.0, ltb-false _ _ (or-false t1 t2 (or-false (t1 || t2) _ c.0).0).1)
