use Rattle.std.specs.Prelude.{ℕ, Result, Err, Ok}
use Rattle.std.proofs.lemmas.Grind.{common_steps}
use native.Mathlib.Omega.{arith}
use mathlib.Core.Path.{◌≡◌, sym}
use Rattle.qcow2_spec.specs.Header.{some_lent}
use Rattle.qcow2_spec.specs.Opened.{opened}
use Rattle.qcow2_spec.specs.Store.{write_plan}
use Rattle.qcow2.proofs.Refusals.{judged-refused}
use Rattle.qcow2.proofs.Taken.{active, write-taken}
use Rattle.qcow2_ways.proofs.Listings.{list_refused}
use Rattle.qcow2_steps.proofs.write_steps.Goals as goal

pub write_in-requires : goal.write_in-requires
unfolding some_lent
write_in-requires c =
    let a = c.args in
    let s = a.image.now in
    let b = a.backing.now in
    let g = c.in_ok-g.g in
    let e : opened (some_lent b) s ≡ Ok g = sym c.in_ok-g.ensures in
    active b s g e

pub returns-in_err-g : goal.returns-in_err-g
unfolding write_plan some_lent
returns-in_err-g c d q =
    let a = c.args in
    let s = a.image.now in
    let b = a.backing.now in
    let k = c.in_err-g.field-0.0 in
    let e : opened (some_lent b) s ≡ Err k = sym c.in_err-g.ensures in
    let r : ◌≡◌ {A = Result ℕ ℕ} c.from_residual.result (Err c.in_err-g.field-0.0) = grind (arith, common_steps) in
    rw r (list_refused s (write_plan b s a.x d) a.rows.now k (judged-refused b s k e _))

pub returns : goal.returns
unfolding some_lent
returns c d q =
    let a = c.args in
    let s = a.image.now in
    let b = a.backing.now in
    let g = c.in_ok-g.g in
    let e : opened (some_lent b) s ≡ Ok g = sym c.in_ok-g.ensures in
    rw (← write-taken b s g e a.x d) (c.write_in.ensures b d q)
