-- What planning a call answers and leaves, by the plan. Assumes nothing.
use Rattle.std.specs.Prelude.{if◌then◌else◌, Err, Ok, Result}
use Prim.Native.Nat.{ℕ, ◌+◌, ◌*◌, ◌/◌, ◌≤◌}
use native.Mathlib.Omega.{arith}
use mathlib.Core.Path.{◌≡◌, refl, sym, ap, ◌∙◌}
use mathlib.Core.Bool.{Bool, true, false, ◌||◌, or_assoc, or_comm}
use mathlib.Core.List.{List, [], ◌++◌}
use lib.Dec.{ltb}
use lib.ListN.{length, take, drop, length-append, length-take, length-drop}
use lib.Seq.{length-take-le, take-nil, drop-nil, take_at, drop_at}
use borrow.Author.Tests.{ltb-false}
use Rattle.endian.proofs.Laws.{length-splice}
use Rattle.units.specs.Units.{UnitStore}
use Rattle.units.specs.Plan.{Plan, refused, units}
use Rattle.qcow2_spec.specs.Steps.{Extent, extents, rows_of, step_rows, rows_put}
use Rattle.qcow2_batches.specs.Batch.{clash, in_phase, call_phase}
use Rattle.qcow2_batches.specs.Rows.{rows_in, new_rows, must_end, answered, rows_after, rows_left, Planning}
use Rattle.qcow2_batches.specs.declared.Planned.{Planned}
use Rattle.qcow2_batches.specs.declared.Planned.TheVariants.{Ends, Rows}
use Rattle.qcow2_batches.proofs.Plain.{after-fits, new_in}
use Rattle.qcow2_phases.specs.Ends.{torn, plan_of, Added}
use Rattle.qcow2_phases.proofs.Meets.{clash_append, clash-left, clash-right}
use Rattle.qcow2_phases.proofs.Held.{in_rows-take, after_nothing}

-- ---- rows that are put into a part
put-room : (l new : List ℕ) → length (take (4 * (length l / 4)) new) ≤ length l
put-room l new = rw length-take (omega arith)

length-put : (l new : List ℕ) → length (rows_put l new) ≡ length l
unfolding rows_put
length-put l new = length-splice l 0 _ (omega (arith, put-room l new))

-- ---- and after the held ones
module _ (k : ℕ) (rows new : List ℕ) where
  length-after : length (rows_after k rows new) ≡ length rows
  unfolding rows_after
  length-after = rw (length-append, length-put, length-take, length-drop) (omega arith)

  module _ (h : 4 * k ≤ length rows) where
    held_after_lem : take (4 * k) (rows_after k rows new) ≡ take (4 * k) rows
    unfolding rows_after
    held_after_lem = take_at (take (4 * k) rows) _ (4 * k) (length-take-le (4 * k) rows h)

    own-after : (n : ℕ) → length new ≡ 4 * n → 4 * (k + n) ≤ length rows → take (4 * n) (drop (4 * k) (rows_after k rows new)) ≡ new
    own-after n e l = rw (after-fits k n rows new e l, drop_at (take (4 * k) rows) _ (4 * k) (length-take-le (4 * k) rows h)) (take_at new _ (4 * n) e)

-- ---- the tests for a byte in two phases
or_turn : (a b c : Bool) → (a || b || c) ≡ ((c || b) || a)
or_turn a b c = or_assoc a b c ∙ or_comm a (b || c) ∙ ap (λ (d : Bool). d || a) (or_comm b c)

-- an answer that is not refused, by a test
ok_if : (x y : Planned) (b : Bool) → ◌≡◌ {A = Result Planned ℕ} (Ok (if b then x else y)) (if b then Ok x else Ok y)
ok_if x y true = refl
ok_if x y false = refl

module _ (s : List ℕ) (us : List UnitStore) (k : ℕ) (out : List ℕ) where
  torn-is : 4 * k ≤ length out
      → torn (take (4 * k) out) (new_rows s (rows_in 1 k out) us) ≡ (clash (extents (call_phase 1 s (rows_in 1 k out) us) ++ rows_in 1 k out) (extents (call_phase 3 s (rows_in 1 k out) us)) || clash (extents (call_phase 1 s (rows_in 1 k out) us)) (rows_in 3 k out))
  unfolding torn
  torn-is h =
      rw (in_rows-take 1 k out h, in_rows-take 3 k out h, new_in s (rows_in 1 k out) us 1 (omega arith), new_in s (rows_in 1 k out) us 3 (omega arith), clash-left, clash-right, clash-left, clash-right, clash_append)
      (or_turn (clash (extents (call_phase 1 s (rows_in 1 k out) us)) (rows_in 3 k out)) (clash (rows_in 1 k out) (extents (call_phase 3 s (rows_in 1 k out) us))) (clash (extents (call_phase 1 s (rows_in 1 k out) us)) (extents (call_phase 3 s (rows_in 1 k out) us))))

  module _ (now : List ℕ) (n : ℕ) (a : Added s us k out now n) where
    abbrev ready : List Extent
    ready = rows_in 1 k out

    abbrev many_new : ℕ
    many_new = length (new_rows s ready us) / 4

    same-torn : k + n ≤ length out / 4 → torn (take (4 * k) now) (take (4 * n) (drop (4 * k) now)) ≡ (clash (extents (call_phase 1 s ready us) ++ ready) (extents (call_phase 3 s ready us)) || clash (extents (call_phase 1 s ready us)) (rows_in 3 k out))
    same-torn h = rw (a.left, held_after_lem k out (new_rows s ready us) (omega arith), own-after k out (new_rows s ready us) (omega arith) n a.many (omega arith)) (torn-is (omega arith))

    same_answer : Ok (plan_of now k n) ≡ answered s (units us) k out
    unfolding plan_of answered must_end
    same_answer =
        let m : many_new ≡ n = omega (arith, a.many) in
        let l : length now ≡ length out = ap length a.left ∙ length-after k out (new_rows s ready us) in
        rw (m, l) (go (ltb (length out / 4) (k + n)) refl)
      where
        go : (t : Bool) → ltb (length out / 4) (k + n) ≡ t
            → ◌≡◌ {A = Result Planned ℕ} (Ok (if t || torn (take (4 * k) now) (take (4 * n) (drop (4 * k) now)) then Ends else Rows (k + n)))
            (if t || clash (extents (call_phase 1 s ready us) ++ ready) (extents (call_phase 3 s ready us)) || clash (extents (call_phase 1 s ready us)) (rows_in 3 k out) then Ok Ends else Ok (Rows (k + n)))
        go true e = refl
        go false e = rw (same-torn (ltb-false _ _ e)) (ok_if _ _ _)

    pub planning_units : (r : Planned) → r ≡ plan_of now k n → Planning s (units us) k out (Ok r) now
    unfolding rows_left
    planning_units r e = record { answer = ap Ok e ∙ same_answer; left = a.left }

-- ---- a refused call, and one that stores nothing
module _ (s : List ℕ) (p : Plan) (k : ℕ) (out : List ℕ) where
  pub planning_refused : (n : ℕ) → p ≡ refused n → Planning s p k out (Err n) out
  unfolding answered rows_left
  planning_refused n e = rw e (record { answer = refl; left = refl })

  none_new : (ready : List Extent) → new_rows s ready [] ≡ []
  unfolding new_rows step_rows rows_of extents call_phase in_phase
  none_new ready = rw (take-nil, drop-nil)

  pub planning_none : p ≡ units [] → (r : Planned) → r ≡ plan_of out k 0 → Planning s p k out (Ok r) out
  planning_none e r f =
      rw e (planning_units s [] k out out 0 (record { many = rw (none_new (rows_in 1 k out)); left = rw (none_new (rows_in 1 k out)) (sym (after_nothing k out)) }) r f)
