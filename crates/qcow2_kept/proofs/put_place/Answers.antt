use native.Mathlib.Omega.{arith}
use mathlib.Core.Path.{refl}
use Rattle.qcow2_kept.proofs.Bytes.{two-stored, three-stored}
use Rattle.qcow2_kept.proofs.put_place.Goals as goal

pub returns : goal.returns
returns c =
    let a = c.args in
    let l = a.bytes.now in
    three-stored l 0 a.stage a.root a.row _ _ 16 refl (omega (arith, c.requires)) (two-stored l 0 a.stage a.root a.row _ _ 8 refl (omega (arith, c.requires)) c.store64.ensures c.store64-2.ensures) c.store64-3.ensures
