use Rattle.std.specs.Prelude.{Err, Ok}
use mathlib.Core.Path.{◌≡◌, sym, ◌∙◌}
use lib.ListN.{length}
use Rattle.qcow2_spec.specs.Header.{some_lent}
use Rattle.qcow2_spec.specs.Opened.{opened}
use Rattle.qcow2.proofs.Refusals.{check-refused, scratch-refused}
use Rattle.qcow2.proofs.Taken.{active, check-taken, scratch-taken}
use Rattle.qcow2.proofs.check.Goals as goal

pub check-requires : goal.check-requires
unfolding some_lent
check-requires c =
    let a = c.args in
    let s = a.image.now in
    let b = a.backing.now in
    let g = c.in-Ok.g in
    let e : opened (some_lent b) s ≡ Ok g = sym c.in-Ok.ensures in
    active b s g e

pub returns-in-Err : goal.returns-in-Err
unfolding some_lent
returns-in-Err c =
    let a = c.args in
    let s = a.image.now in
    let b = a.backing.now in
    let k = c.in-Err.e in
    let e : opened (some_lent b) s ≡ Err k = sym c.in-Err.ensures in
    rw c.number.ensures (sym (check-refused b s k e (length a.scratch.now)), sym (scratch-refused b s k e a.scratch.now))

pub returns-in-Ok : goal.returns-in-Ok
unfolding some_lent
returns-in-Ok c =
    let a = c.args in
    let s = a.image.now in
    let b = a.backing.now in
    let g = c.in-Ok.g in
    let e : opened (some_lent b) s ≡ Ok g = sym c.in-Ok.ensures in
    let r = c.check.ensures in
    (r.0 ∙ check-taken b s g e (length a.scratch.now), r.1 ∙ scratch-taken b s g e a.scratch.now)
