-- The rows that are held, as a part of all and as many as there are. Assumes nothing.
use Prim.Native.Nat.{ℕ, zero, suc, ◌+◌, ◌*◌, ◌/◌, ◌≤◌, ◌<◌}
use native.Mathlib.Omega.{arith}
use mathlib.Core.Path.{◌≡◌, refl, sym, ap, ◌∙◌}
use mathlib.Core.Bool.{Bool, true, false}
use mathlib.Core.List.{List, [], ◌++◌}
use lib.Dec.{ltb}
use lib.ListN.{length, take, drop, length-drop, take-append-drop}
use lib.Seq.{length-take-le, take-nil}
use borrow.Author.Tests.{lt-leb, ltb-true, ltb-false}
use Rattle.endian.specs.Big.{splice}
use Rattle.qcow2_spec.specs.Steps.{rows_put}
use Rattle.qcow2_batches.specs.Rows.{rows_in, rows_after}
use Rattle.qcow2_batches.proofs.Plain.{none_in, rows_in-take}
use Rattle.qcow2_phases.specs.Ends.{in_rows}

-- ---- the first k rows alone
pub in_rows-take : (p k : ℕ) (rows : List ℕ) → 4 * k ≤ length rows → in_rows p (take (4 * k) rows) ≡ rows_in p k rows
in_rows-take p k rows h =
    let e : length (take (4 * k) rows) / 4 ≡ k = let l = length-take-le (4 * k) rows h in omega arith in
    ap (λ (n : ℕ). rows_in p n (take (4 * k) rows)) e ∙ rows_in-take p k rows h

-- ---- more rows than there are
few-step : (p : ℕ) (k : ℕ) (rows : List ℕ) → length rows < 4 → rows_in p (suc k) rows ≡ rows_in p k (drop 4 rows)
unfolding rows_in
few-step p k rows h = rw (lt-leb 4 (length rows) h)

more-step : (p k m n : ℕ) (rows : List ℕ) → n ≡ suc m → rows_in p k (drop 4 rows) ≡ rows_in p m (drop 4 rows) → rows_in p (suc k) rows ≡ rows_in p n rows
unfolding rows_in
more-step p k m n rows e r = rw (e, r)

pub rows_in-few : (p k : ℕ) (rows : List ℕ) → length rows / 4 ≤ k → rows_in p k rows ≡ in_rows p rows
rows_in-few p zero rows h = let e : length rows / 4 ≡ 0 = omega arith in rw e
rows_in-few p (suc k) rows h = go (ltb (length rows) 4) refl (rows_in-few p k (drop 4 rows) (rw length-drop (omega arith)))
  where
    go : (t : Bool) → ltb (length rows) 4 ≡ t → rows_in p k (drop 4 rows) ≡ in_rows p (drop 4 rows) → rows_in p (suc k) rows ≡ in_rows p rows
    go true q r = let l = ltb-true (length rows) 4 q in let e : length rows / 4 ≡ 0 = omega arith in let d : length (drop 4 rows) / 4 ≡ 0 = rw length-drop (omega arith) in rw e (few-step p k rows l ∙ r ∙ ap (λ (n : ℕ). rows_in p n (drop 4 rows)) d ∙ none_in p (drop 4 rows) ∙ sym (none_in p rows))
    go false q r = let l = ltb-false (length rows) 4 q in more-step p k _ _ rows (rw length-drop (omega arith)) r

-- ---- rows that are put after the held ones
put-few : (l new : List ℕ) → length l < 4 → rows_put l new ≡ l
unfolding rows_put splice
put-few l new h = let e : length l / 4 ≡ 0 = omega arith in rw e

-- there is no room for any
pub after_none : (k : ℕ) (rows new : List ℕ) → length rows < 4 * k + 4 → rows_after k rows new ≡ rows
unfolding rows_after
after_none k rows new h = ap (λ (l : List ℕ). take (4 * k) rows ++ l) (put-few (drop (4 * k) rows) new (rw length-drop (omega arith))) ∙ take-append-drop (4 * k) rows

pub after_nothing : (k : ℕ) (rows : List ℕ) → rows_after k rows [] ≡ rows
unfolding rows_after rows_put splice
after_nothing k rows = rw take-nil (take-append-drop (4 * k) rows)
