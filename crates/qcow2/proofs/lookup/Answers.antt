use Rattle.std.specs.Prelude.{Err, Ok}
use mathlib.Core.Path.{◌≡◌, sym, ◌∙◌}
use Rattle.qcow2_spec.specs.Header.{some_lent}
use Rattle.qcow2_spec.specs.Opened.{opened}
use Rattle.qcow2.proofs.Refusals.{place-refused}
use Rattle.qcow2.proofs.Taken.{active, place-taken}
use Rattle.qcow2.proofs.lookup.Goals as goal

pub part_in-requires : goal.part_in-requires
unfolding some_lent
part_in-requires c =
    let a = c.args in
    let s = a.image.now in
    let b = a.backing.now in
    let g = c.in-Ok.g in
    let e : opened (some_lent b) s ≡ Ok g = sym c.in-Ok.ensures in
    active b s g e

pub returns-in-Err : goal.returns-in-Err
unfolding some_lent
returns-in-Err c =
    let a = c.args in
    let s = a.image.now in
    let b = a.backing.now in
    let k = c.in-Err.field-0 in
    let e : opened (some_lent b) s ≡ Err k = sym c.in-Err.ensures in
    sym (place-refused b s k e a.x)

pub returns-in-Ok : goal.returns-in-Ok
unfolding some_lent
returns-in-Ok c =
    let a = c.args in
    let s = a.image.now in
    let b = a.backing.now in
    let g = c.in-Ok.g in
    let e : opened (some_lent b) s ≡ Ok g = sym c.in-Ok.ensures in
    let r = c.part_in.ensures in
    r ∙ place-taken b s g e a.x
