use Rattle.std.specs.Prelude.{Err, Ok}
use mathlib.Core.Path.{◌≡◌, refl, sym}
use borrow.Author.Tests.{ne_eqb}
use Rattle.qcow2_spec.specs.Header.{some_lent, judge}
use Rattle.qcow2_spec.specs.Opened.{opened}
use Rattle.qcow2_spec.proofs.Open.{refused-is, accepted-is}
use Rattle.qcow2_guest.proofs.Ready.{active_size}
use Rattle.qcow2_c.proofs.qcow2_backed_geometry.Goals as goal

pub returns-in-Err : goal.returns-in-Err
unfolding judge some_lent
returns-in-Err c =
    let a = c.args in
    let s = a.image.now in
    let l = some_lent a.backing.now in
    let k = c.in-Err.e in
    let e : opened l s ≡ Err k = sym c.in-Err.ensures in
    let r = refused-is l s k e in
    rw (r.0, ne_eqb k 0 r.1) (c.number.ensures, (refl, (refl, refl)))

pub returns-in-Ok : goal.returns-in-Ok
unfolding judge some_lent
returns-in-Ok c =
    let a = c.args in
    let s = a.image.now in
    let l = some_lent a.backing.now in
    let g = c.in-Ok.g in
    let e : opened l s ≡ Ok g = sym c.in-Ok.ensures in
    let o = accepted-is l s g e in
    rw o.0 (refl, (o.1.0.is_bits, (active_size g s o.1, o.1.0.is-clusters)))
