-- `qcow2_planned::batch_repair` meets its contract. Assumes nothing.
use Rattle.std.specs.Prelude.{ℕ, Result, Err, Ok}
use Rattle.std.proofs.lemmas.Grind.{common_steps}
use native.Mathlib.Omega.{arith}
use mathlib.Core.Path.{◌≡◌, sym, ◌∙◌}
use lib.ListN.{length}
use Rattle.qcow2_spec.specs.Header.{some_lent}
use Rattle.qcow2_spec.specs.Opened.{opened}
use Rattle.qcow2_spec.specs.Check.{repair_plan}
use Rattle.qcow2.proofs.Refusals.{judged-refused, scratch-refused}
use Rattle.qcow2.proofs.Taken.{active, repair-taken, scratch-taken}
use Rattle.qcow2_batches.specs.declared.Planned.{Planned}
use Rattle.qcow2_phases.proofs.Plannings.{planning_refused}
use Rattle.qcow2_planned.proofs.batch_repair.Goals as goal

pub repair_in-requires : goal.repair_in-requires
unfolding some_lent
repair_in-requires c =
    let a = c.args in
    let s = a.image.now in
    let b = a.backing.now in
    let e : opened (some_lent b) s ≡ Ok c.in_ok-g.g = sym c.in_ok-g.ensures in
    active b s c.in_ok-g.g e

pub returns-in_err-g : goal.returns-in_err-g
unfolding repair_plan some_lent
returns-in_err-g c =
    let a = c.args in
    let s = a.image.now in
    let b = a.backing.now in
    let e : opened (some_lent b) s ≡ Err c.in_err-g.field-0.0 = sym c.in_err-g.ensures in
    let r : ◌≡◌ {A = Result Planned ℕ} c.from_residual.result (Err c.in_err-g.field-0.0) = grind (arith, common_steps) in
    (rw r (planning_refused s (repair_plan b s (length a.scratch.now)) a.k a.rows.now c.in_err-g.field-0.0 (judged-refused b s c.in_err-g.field-0.0 e _)), sym (scratch-refused b s c.in_err-g.field-0.0 e a.scratch.now))

pub returns : goal.returns
unfolding some_lent
returns c =
    let a = c.args in
    let s = a.image.now in
    let b = a.backing.now in
    let e : opened (some_lent b) s ≡ Ok c.in_ok-g.g = sym c.in_ok-g.ensures in
    (rw (← repair-taken b s c.in_ok-g.g e (length a.scratch.now)) c.repair_in.ensures.0, c.repair_in.ensures.1 ∙ scratch-taken b s c.in_ok-g.g e a.scratch.now)
