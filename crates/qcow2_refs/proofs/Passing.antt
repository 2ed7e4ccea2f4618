-- Laws of a walk over an L1 table: how many entries pass with all below them.
-- Assumes nothing.
use Rattle.std.specs.Prelude.{if◌then◌else◌}
use Prim.Native.Nat.{ℕ, ◌+◌, ◌≤◌, ◌<◌}
use mathlib.Core.Path.{◌≡◌, refl}
use mathlib.Core.Bool.{Bool, true, false}
use mathlib.Core.List.{List}
use native.Mathlib.Omega.{arith}
use borrow.Author.Tests.{eq-eqb, eqb-true, eqb-false, ltb-true, ltb-false}
use lib.Dec.{eqb, ltb}
use Rattle.qcow2_spec.specs.Header.{per_table}
use Rattle.qcow2_refs.specs.declared.Progress.{Progress}
use Rattle.qcow2_refs.specs.Walks.{PassTo, Found, walked, row_front, row_at, below_at, entry_passes}
use Rattle.qcow2_refs.proofs.Fronts.{row-good, row-clear}

-- what is found at first, and where the walk has passed an entry more
pub found_first : (kind : ℕ) (s : List ℕ) (t j : ℕ) → Found kind s t 0 0 j
found_first kind s t j = record { few = omega arith; front = λ k l. absurd (omega arith); bad = λ l. absurd (omega arith) }

pub row_next : (per : ℕ) (w : Progress) (k : ℕ) → (walked per w k).row ≡ w.row + 1
unfolding walked
row_next per w k = go (ltb w.good w.row) _ _ refl refl
  where
    go : (t : Bool) (a b : Progress) → a.row ≡ w.row + 1 → b.row ≡ w.row + 1 → (if◌then◌else◌ {A = Progress} t a b).row ≡ w.row + 1
    go true a b e f = e
    go false a b e f = f

module _ (kind : ℕ) (s : List ℕ) (t : ℕ) where
  one_more : (row k : ℕ) → k ≡ row_front kind s (row_at s t row) → PassTo kind s t row → (p : Bool) → entry_passes kind s (row_at s t row) ≡ p → Found kind s t (row + 1) (if p then row + 1 else row) k
  unfolding below_at
  one_more row k e g false h =
      record { few = omega arith; front = g; bad = λ l. (h, λ x m. row-clear kind s (row_at s t row) h x (rw e at m)) }
  one_more row k e g true h = record { few = omega arith; front = λ i l. at_each i l (eqb i row) refl; bad = λ l. absurd (omega arith) }
    where
      at_each : (i : ℕ) → i < row + 1 → (v : Bool) → eqb i row ≡ v → entry_passes kind s (row_at s t i) ≡ true
      at_each i l true q = rw (eqb-true i row q) h
      at_each i l false q = let w = eqb-false i row q in g i (omega arith)

  pub found-next : (w n : Progress) → 1 ≤ per_table s → Found kind s t w.row w.good w.below → n ≡ walked (per_table s) w (row_front kind s (row_at s t w.row))
      → Found kind s t (w.row + 1) n.good n.below
  unfolding walked
  found-next w n h f e = rw e (go (ltb w.good w.row) refl)
    where
      k : ℕ
      k = row_front kind s (row_at s t w.row)

      go : (p : Bool) → ltb w.good w.row ≡ p → Found kind s t (w.row + 1) (walked (per_table s) w k).good (walked (per_table s) w k).below
      go true q =
          let m : w.good < w.row = ltb-true _ _ q in
          rw q (record { few = omega arith; front = f.front; bad = λ l. f.bad m })
      go false q =
          let m : w.row ≤ w.good = ltb-false _ _ q in
          let d : w.good ≡ w.row = omega (arith, f.few) in
          rw (q, d, eq-eqb w.row w.row refl, row-good kind s (row_at s t w.row) h) (one_more w.row k refl (rw d at f.front) (entry_passes kind s (row_at s t w.row)) refl)
