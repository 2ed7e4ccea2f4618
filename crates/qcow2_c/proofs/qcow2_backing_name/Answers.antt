use Rattle.std.specs.Prelude.{Err, Ok}
use mathlib.Core.Path.{◌≡◌, refl, sym}
use mathlib.Core.Bool.{true}
use borrow.Author.Tests.{ne_eqb}
use Rattle.qcow2_spec.specs.Opened.{opened}
use Rattle.qcow2_spec.proofs.Open.{refused-is, accepted-is}
use Rattle.qcow2_c.proofs.qcow2_backing_name.Goals as goal

pub name_at-requires : goal.name_at-requires
name_at-requires c =
    let s = c.args.image.now in
    let g = c.in-Ok.g in
    let e : opened true s ≡ Ok g = sym c.in-Ok.ensures in
    (accepted-is true s g e).1.0

pub name_len-requires : goal.name_len-requires
name_len-requires c =
    let s = c.args.image.now in
    let g = c.in-Ok.g in
    let e : opened true s ≡ Ok g = sym c.in-Ok.ensures in
    (accepted-is true s g e).1.0

pub returns-in-Err : goal.returns-in-Err
returns-in-Err c =
    let s = c.args.image.now in
    let k = c.in-Err.e in
    let e : opened true s ≡ Err k = sym c.in-Err.ensures in
    let r = refused-is true s k e in
    rw (r.0, ne_eqb k 0 r.1) (c.number.ensures, (refl, refl))

pub returns-in-Ok : goal.returns-in-Ok
returns-in-Ok c =
    let s = c.args.image.now in
    let g = c.in-Ok.g in
    let e : opened true s ≡ Ok g = sym c.in-Ok.ensures in
    rw (accepted-is true s g e).0 (refl, (c.name_at.ensures, c.name_len.ensures))
