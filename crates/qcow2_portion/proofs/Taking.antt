-- A portion by what the code has found.
-- Assumes nothing.
use Rattle.std.specs.Prelude.{Err, Ok}
use Prim.Native.Nat.{ℕ, ◌+◌, ◌-◌, ◌*◌, ◌/◌, ◌≤◌, ◌<◌, min}
use native.Mathlib.Omega.{arith}
use mathlib.Core.Path.{◌≡◌, refl, sym, ap, ap₂, ◌∙◌}
use mathlib.Core.Logic.{◌⊎◌, inl, inr}
use mathlib.Core.Bool.{true, false}
use mathlib.Core.List.{List, ◌++◌}
use lib.Dec.{ltb}
use lib.ListN.{length, take, drop}
use lib.Seq.{take_all}
use borrow.Author.Tests.{eq-eqb, ne_eqb, lt-ltb, le-ltb, ltb-true, ltb-false}
use Rattle.choice.proofs.Tests.{two_ways}
use Rattle.tally.specs.States.{twos}
use Rattle.packed_twos.specs.Twos.{figures_in}
use Rattle.qcow2_spec.specs.Header.{clusters, some_lent, judge}
use Rattle.qcow2_spec.specs.Opened.{opened}
use Rattle.qcow2_spec.specs.Check.{or_else}
use Rattle.qcow2_spec.specs.declared.Verdict.{Verdict}
use Rattle.qcow2_spec.specs.declared.Verdict.TheVariants.{Sound}
use Rattle.qcow2_spec.specs.declared.Geometry.{Geometry}
use Rattle.qcow2_spec.proofs.Open.{accepted-is}
use Rattle.qcow2_header.proofs.Chain.{unless-refused}
use Rattle.qcow2_verdict.proofs.Figures.{figures_are}
use Rattle.qcow2_portions.specs.Rows.{Row, ahead, added, met, root_after, row_after, started}
use Rattle.qcow2_portions.specs.Last.{last_verdict}
use Rattle.qcow2_portion.specs.State.{refused_with, waits, ends, taken_rows, figures_taken, verdict_taken, taken, stepped, scratch_stepped, portioned, scratch_portioned, portion, scratch_portion}
use Rattle.qcow2_portion.specs.declared.CheckState.{CheckState}
use Rattle.qcow2_portion.specs.declared.CheckState.TheVariants.{New, Going, Finished}
use Rattle.qcow2_portion.specs.declared.Portion.{Portion}

-- no more are taken than there are
take-least : (m : ℕ) (l : List Row) → take (min m (length l)) l ≡ take m l
take-least m l = go (two_ways (ltb m (length l)))
  where
    go : (ltb m (length l) ≡ true) ⊎ (ltb m (length l) ≡ false) → take (min m (length l)) l ≡ take m l
    go (inl h) = let e : min m (length l) ≡ m = omega (arith, ltb-true m (length l) h) in rw e refl
    go (inr h) = let g = ltb-false m (length l) h in let e : min m (length l) ≡ length l = omega arith in rw e (take_all (length l) l (omega arith) ∙ sym (take_all m l g))

module _ (s z y : List ℕ) (root row may n count : ℕ) (found : Verdict) (ahead-is : n ≡ length (ahead s root row)) (count-is : count ≡ min may n)
    (figs : y ≡ added s (take count (ahead s root row)) z) where
  rows_are : take count (ahead s root row) ≡ taken_rows s root row may
  unfolding taken_rows
  rows_are = ap (λ (k : ℕ). take k (ahead s root row)) (count-is ∙ ap (min may) ahead-is) ∙ take-least may (ahead s root row)

  pub figures-told : y ≡ figures_taken s root row may z
  unfolding figures_taken
  figures-told = figs ∙ ap (λ (rs : List Row). added s rs z) rows_are

  module _ (u : Verdict) (met-is : u ≡ met s (take count (ahead s root row)) found) where
    met-told : u ≡ met s (taken_rows s root row may) found
    met-told = met-is ∙ ap (λ (rs : List Row). met s rs found) rows_are

    -- some are left
    pub taken_more : (r i : ℕ) → r ≡ root_after root (take count (ahead s root row)) → i ≡ row_after row (take count (ahead s root row)) → may < n → waits (Going r i u) ≡ taken s root row found may z
    unfolding taken
    taken_more r i hr hi h =
        let l : ltb may (length (ahead s root row)) ≡ true = lt-ltb may (length (ahead s root row)) (omega (arith, h, ahead-is)) in
        let a : r ≡ root_after root (taken_rows s root row may) = hr ∙ ap (root_after root) rows_are in
        let b : i ≡ row_after row (taken_rows s root row may) = hi ∙ ap (row_after row) rows_are in
        rw (l, a, b, met-told) refl

    -- none is left
    pub taken-last : (v : Verdict) (N : ℕ) → N ≡ clusters s → length y ≡ 2 * N → v ≡ or_else u (last_verdict s (figures_in y)) → n ≤ may → ends v ≡ taken s root row found may z
    unfolding taken verdict_taken
    taken-last v N h_n hl hv h =
        let l : ltb may (length (ahead s root row)) ≡ false = le-ltb may (length (ahead s root row)) (omega (arith, h, ahead-is)) in
        let f : figures_in y ≡ twos (figures_taken s root row may z) 0 (clusters s) = sym (figures_are y N hl) ∙ ap₂ (λ (q : List ℕ) (k : ℕ). twos q 0 k) figures-told h_n in
        let e : v ≡ or_else (met s (taken_rows s root row may) found) (last_verdict s (twos (figures_taken s root row may z) 0 (clusters s))) = hv ∙ ap₂ (λ (a : Verdict) (q : List ℕ). or_else a (last_verdict s q)) met-told f in
        rw (l, e) refl

-- ---- by the state
module _ (s z : List ℕ) (may : ℕ) where
  pub step-finished : (st : CheckState) (v : Verdict) → st ≡ Finished v → (ends v ≡ stepped s st z may) × (z ≡ scratch_stepped s st z may)
  unfolding stepped scratch_stepped
  step-finished st v e = rw e (refl, refl)

  pub wait_new : (st : CheckState) → st ≡ New → may ≡ 0 → (waits st ≡ stepped s st z may) × (z ≡ scratch_stepped s st z may)
  unfolding stepped scratch_stepped
  wait_new st e h = rw (e, eq-eqb may 0 h) (refl, refl)

  pub wait_going : (st : CheckState) (t i : ℕ) (v : Verdict) → st ≡ Going t i v → may ≡ 0 → (waits (Going t i v) ≡ stepped s st z may) × (z ≡ scratch_stepped s st z may)
  unfolding stepped scratch_stepped
  wait_going st t i v e h = rw (e, eq-eqb may 0 h) (refl, refl)

  module _ (N : ℕ) (is : N ≡ clusters s) (y rest : List ℕ) (tail : rest ≡ drop (2 * N) z) where
    pub step_new : (st : CheckState) (p : Portion) → st ≡ New → (may ≡ 0 → ⊥) → p ≡ taken s 0 0 Sound may (started s) → y ≡ figures_taken s 0 0 may (started s)
        → (p ≡ stepped s st z may) × (y ++ rest ≡ scratch_stepped s st z may)
    unfolding stepped scratch_stepped
    step_new st p e h hp hy = rw (e, ne_eqb may 0 h) (hp, rw (hy, tail, is) refl)

    pub step_going : (st : CheckState) (p : Portion) (t i : ℕ) (v : Verdict) → st ≡ Going t i v → (may ≡ 0 → ⊥) → p ≡ taken s t i v may (take (2 * N) z) → y ≡ figures_taken s t i may (take (2 * N) z)
        → (p ≡ stepped s st z may) × (y ++ rest ≡ scratch_stepped s st z may)
    unfolding stepped scratch_stepped
    step_going st p t i v e h hp hy = rw (e, ne_eqb may 0 h) (rw is at hp, rw (hy, tail, is) refl)

-- ---- by the scratch's length
module _ (s : List ℕ) (st : CheckState) (z : List ℕ) (may N : ℕ) (is : N ≡ clusters s) where
  pub portion-short : length z / 2 < N → (refused_with st 15 ≡ portioned s st z may) × (z ≡ scratch_portioned s st z may)
  unfolding portioned scratch_portioned
  portion-short h = let l : ltb (length z) (2 * clusters s) ≡ true = lt-ltb (length z) (2 * clusters s) (omega (arith, h, is)) in rw l (refl, refl)

  pub portion-room : N ≤ length z / 2 → (p : Portion) (y : List ℕ) → p ≡ stepped s st z may → y ≡ scratch_stepped s st z may → (p ≡ portioned s st z may) × (y ≡ scratch_portioned s st z may)
  unfolding portioned scratch_portioned
  portion-room h p y hp hy = let l : ltb (length z) (2 * clusters s) ≡ false = le-ltb (length z) (2 * clusters s) (omega (arith, h, is)) in rw l (hp, hy)

-- ---- by the header
module _ (backing s : List ℕ) (st : CheckState) (z : List ℕ) (may : ℕ) where
  pub portion-refused : (k : ℕ) → opened (some_lent backing) s ≡ Err k → (refused_with st k ≡ portion backing s st z may) × (z ≡ scratch_portion backing s st z may)
  unfolding portion scratch_portion
  portion-refused k e = (sym (unless-refused backing s k e (refused_with st) _), sym (unless-refused backing s k e (λ n. z) _))

  pub portion-accepted : (g : Geometry) → opened (some_lent backing) s ≡ Ok g → (p : Portion) (y : List ℕ) → p ≡ portioned s st z may → y ≡ scratch_portioned s st z may
      → (p ≡ portion backing s st z may) × (y ≡ scratch_portion backing s st z may)
  unfolding portion scratch_portion judge
  portion-accepted g e p y hp hy = rw (accepted-is (some_lent backing) s g e).0 (hp, hy)
