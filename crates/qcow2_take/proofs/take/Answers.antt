use native.Mathlib.Omega.{arith}
use mathlib.Core.Path.{◌≡◌, refl, ◌∙◌}
use Rattle.qcow2_portions.specs.Rows.{added, met, root_after, row_after}
use Rattle.qcow2_take.proofs.take.Goals as goal

pub loop-w-init : goal.loop-w-init
loop-w-init c = (refl, c.requires.1, (refl, refl), (refl, refl))

pub take_table-w-requires : goal.take_table-w-requires
take_table-w-requires c = ((c.requires.0.0, c.loop-w.invariant.0 ∙ c.requires.0.1), (c.loop-w-test.true, c.loop-w.invariant.1))

pub loop-w-smaller : goal.loop-w-smaller
loop-w-smaller c = c.take_table-w.ensures.less

pub loop-w-preserved : goal.loop-w-preserved
loop-w-preserved c =
    let t = c.take_table-w.ensures in
    let i = c.loop-w.invariant in
    (c.take_table-w.auto.scratch ∙ i.0, t.there, (t.root ∙ i.2.0, t.row ∙ i.2.1), (t.found ∙ i.3.0, t.figures ∙ i.3.1))

pub returns : goal.returns
unfolding added met root_after row_after
returns c =
    let l = c.loop-w in
    let z : l.w.left ≡ 0 = omega arith in
    let i = rw z at l.invariant in
    ((i.2.0, i.2.1), (i.3.0, i.3.1))
