use Rattle.std.specs.Prelude.{ℕ, Result, Err, Ok}
use Rattle.std.proofs.lemmas.Grind.{common_steps}
use native.Mathlib.Omega.{arith}
use mathlib.Core.Path.{◌≡◌, sym, ◌∙◌}
use lib.ListN.{length}
use Rattle.qcow2_spec.specs.Header.{some_lent}
use Rattle.qcow2_spec.specs.Opened.{opened}
use Rattle.qcow2_spec.specs.Check.{repair_plan}
use Rattle.qcow2.proofs.Refusals.{judged-refused, scratch-refused}
use Rattle.qcow2.proofs.Taken.{active, repair-taken, scratch-taken}
use Rattle.qcow2_ways.proofs.Listings.{list_refused}
use Rattle.qcow2_steps.proofs.repair_steps.Goals as goal

pub repair_in-requires : goal.repair_in-requires
unfolding some_lent
repair_in-requires c =
    let a = c.args in
    let s = a.image.now in
    let b = a.backing.now in
    let g = c.in_ok-g.g in
    let e : opened (some_lent b) s ≡ Ok g = sym c.in_ok-g.ensures in
    active b s g e

pub returns-in_err-g : goal.returns-in_err-g
unfolding repair_plan some_lent
returns-in_err-g c =
    let a = c.args in
    let s = a.image.now in
    let b = a.backing.now in
    let k = c.in_err-g.field-0.0 in
    let e : opened (some_lent b) s ≡ Err k = sym c.in_err-g.ensures in
    let r : ◌≡◌ {A = Result ℕ ℕ} c.from_residual.result (Err c.in_err-g.field-0.0) = grind (arith, common_steps) in
    (rw r (list_refused s (repair_plan b s (length a.scratch.now)) a.rows.now k (judged-refused b s k e _)), sym (scratch-refused b s k e a.scratch.now))

pub returns : goal.returns
unfolding some_lent
returns c =
    let a = c.args in
    let s = a.image.now in
    let b = a.backing.now in
    let g = c.in_ok-g.g in
    let e : opened (some_lent b) s ≡ Ok g = sym c.in_ok-g.ensures in
    (rw (← repair-taken b s g e (length a.scratch.now)) c.repair_in.ensures.0, c.repair_in.ensures.1 ∙ scratch-taken b s g e a.scratch.now)
