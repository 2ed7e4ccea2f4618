use native.Mathlib.Omega.{arith}
use Rattle.qcow2_portion.proofs.Taking.{portion-short, portion-room}
use Rattle.qcow2_portion.proofs.portioned.Goals as goal

pub returns-then-scratch-g : goal.returns-then-scratch-g
returns-then-scratch-g c = let a = c.args in portion-short a.image.now a.st a.scratch.now a.may a.g.clusters c.requires.0.is-clusters c.if-scratch-g.true

pub stepped-requires : goal.stepped-requires
stepped-requires c = (c.requires, omega (arith, c.if-scratch-g.false))

pub returns : goal.returns
returns c =
    let a = c.args in
    let t = c.stepped.ensures in
    portion-room a.image.now a.st a.scratch.now a.may a.g.clusters c.requires.0.is-clusters c.if-scratch-g.false _ _ t.0 t.1
