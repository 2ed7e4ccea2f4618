use native.Mathlib.Omega.{arith}
use mathlib.Core.Path.{◌∙◌}
use Rattle.qcow2_spec.proofs.Facts.{facts}
use Rattle.qcow2_forest.proofs.Scratches.{unpacked_states}
use Rattle.qcow2_forest.proofs.settle.Goals as goal

pub count_alone-requires : goal.count_alone-requires
count_alone-requires c = c.requires.0

pub returns-then-shared-g : goal.returns-then-shared-g
returns-then-shared-g c = c.count_alone.ensures.1

pub unpack-requires : goal.unpack-requires
unpack-requires c = omega (arith, c.requires.0.1)

pub returns : goal.returns
returns c =
    let o = c.requires.0.0.0 in
    let s = c.args.image.now in
    c.unpack.ensures ∙ unpacked_states s (facts s o.accepted) _ c.requires.1.1 (omega (arith, c.if-shared-g.false, c.requires.1.0, o.is-clusters))
