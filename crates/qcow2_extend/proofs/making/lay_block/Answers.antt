use native.Mathlib.Omega.{arith}
use mathlib.Core.Path.{◌∙◌}
use lib.ListN.{length-set}
use Rattle.qcow2_extend.proofs.Blocks.{lay_over, lay_before}
use Rattle.qcow2_extend.proofs.making.lay_block.Goals as goal

pub shape_of-part-then-own-k : goal.shape_of-part-then-own-k
shape_of-part-then-own-k c = rw length-set c.zeros.auto.s

pub returns-then-own-k : goal.returns-then-own-k
returns-then-own-k c =
    let a = c.args in
    (c.min-k.ensures, rw c.zeros.ensures (lay_over a.part.now _ a.own c.min-k.result c.requires c.if-own-k.true (omega (arith, c.min-k.ensures))))

pub returns : goal.returns
returns c =
    let a = c.args in
    (c.min-k.ensures, c.zeros.ensures ∙ lay_before a.part.now _ a.own c.min-k.result c.requires c.if-own-k.false)
