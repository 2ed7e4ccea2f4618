use native.Mathlib.Omega.{arith}
use Rattle.qcow2_extend.proofs.Makes.{block_unmarked, block_marked}
use Rattle.qcow2_extend.proofs.making.make_block.Goals as goal

pub returns-then-mark-ne1 : goal.returns-then-mark-ne1
returns-then-mark-ne1 c = let a = c.args in block_unmarked a.p a.i a.mark a.left a.image.now c.if-mark-ne1.true

pub overflow_mul-i-2 : goal.overflow_mul-i-2
overflow_mul-i-2 c = omega (arith, c.requires.0.inside _ c.requires.1, c.requires.0.short)

pub returns : goal.returns
returns c =
    let a = c.args in
    let f = c.fill_block-rest in
    let e = c.store_entry in
    block_marked a.p a.i a.mark a.left f.result e.result a.image.now f.new.image e.new.image c.requires.0.owned c.if-mark-ne1.false f.ensures.0 f.ensures.1 e.ensures.0 e.ensures.1
