-- `qcow2_planned::batch_discard` meets its contract. Assumes nothing.
use Rattle.std.specs.Prelude.{ℕ, Result, Err, Ok}
use Rattle.std.proofs.lemmas.Grind.{common_steps}
use native.Mathlib.Omega.{arith}
use mathlib.Core.Path.{◌≡◌, sym, ◌∙◌}
use Rattle.qcow2_spec.specs.Header.{some_lent}
use Rattle.qcow2_spec.specs.Opened.{opened}
use Rattle.qcow2_spec.specs.Store.{discard_plan}
use Rattle.qcow2.proofs.Refusals.{judged-refused}
use Rattle.qcow2.proofs.Taken.{active, discard-taken}
use Rattle.qcow2_batches.specs.declared.Planned.{Planned}
use Rattle.qcow2_phases.proofs.Plannings.{planning_refused}
use Rattle.qcow2_planned.proofs.batch_discard.Goals as goal

pub discard_in-requires : goal.discard_in-requires
unfolding some_lent
discard_in-requires c =
    let a = c.args in
    let s = a.image.now in
    let b = a.backing.now in
    let e : opened (some_lent b) s ≡ Ok c.in_ok-g.g = sym c.in_ok-g.ensures in
    active b s c.in_ok-g.g e

pub returns-in_err-g : goal.returns-in_err-g
unfolding discard_plan some_lent
returns-in_err-g c =
    let a = c.args in
    let s = a.image.now in
    let b = a.backing.now in
    let e : opened (some_lent b) s ≡ Err c.in_err-g.field-0.0 = sym c.in_err-g.ensures in
    let r : ◌≡◌ {A = Result Planned ℕ} c.from_residual.result (Err c.in_err-g.field-0.0) = grind (arith, common_steps) in
    rw r (planning_refused s (discard_plan b s a.guest) a.k a.rows.now c.in_err-g.field-0.0 (judged-refused b s c.in_err-g.field-0.0 e _))

pub returns : goal.returns
unfolding some_lent
returns c =
    let a = c.args in
    let s = a.image.now in
    let b = a.backing.now in
    let e : opened (some_lent b) s ≡ Ok c.in_ok-g.g = sym c.in_ok-g.ensures in
    rw (← discard-taken b s c.in_ok-g.g e a.guest) c.discard_in.ensures
