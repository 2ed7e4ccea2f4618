use native.Mathlib.Omega.{arith}
use mathlib.Core.Path.{refl}
use Rattle.qcow2_kept.proofs.Bytes.{two-stored, three-stored, four-stored}
use Rattle.qcow2_kept.proofs.put_numbers.Goals as goal

pub returns : goal.returns
returns c =
    let l = c.args.bytes.now in
    let n = c.args.n in
    four-stored l 24 n.kind n.a n.b n.c _ _ 48 refl (omega (arith, c.requires))
    (three-stored l 24 n.kind n.a n.b _ _ 40 refl (omega (arith, c.requires)) (two-stored l 24 n.kind n.a n.b _ _ 32 refl (omega (arith, c.requires)) c.store64.ensures c.store64-2.ensures) c.store64-3.ensures)
    c.store64-4.ensures
