use mathlib.Core.Path.{refl, sym, ◌∙◌}
use Rattle.tally.specs.States.{twos}
use Rattle.qcow2_remark.proofs.Marking.{marks-first, marks-none, marks-below, marks-own, marks_later}
use Rattle.qcow2_remark.proofs.first_wrong.Goals as goal

pub loop-i-init : goal.loop-i-init
loop-i-init c = refl

pub row_at-requires : goal.row_at-requires
row_at-requires c = (c.requires.0.0, c.loop-i-test.true)

pub row_fore-k-requires : goal.row_fore-k-requires
row_fore-k-requires c = (c.requires.0.0, c.requires.1)

pub returns-then-k-per : goal.returns-then-k-per
returns-then-k-per c =
    let a = c.args in
    let s = a.image.now in
    let S = a.scratch.now in
    let w = c.power in
    let l = c.loop-i in
    let f = c.row_fore-k in
    let r = c.row_at in
    let t = marks-below a.g s S c.requires.0 l.i w.result r.result f.result w.ensures.0 c.loop-i-test.true r.ensures f.ensures c.if-k-per.true in
    sym t ∙ l.invariant ∙ marks-first s (twos S 0 a.g.clusters)

pub returns-then-per-k : goal.returns-then-per-k
returns-then-per-k c =
    let a = c.args in
    let s = a.image.now in
    let S = a.scratch.now in
    let w = c.power in
    let l = c.loop-i in
    let f = c.row_fore-k in
    let r = c.row_at in
    let t = marks-own a.g s S c.requires.0 l.i w.result r.result f.result w.ensures.0 c.loop-i-test.true r.ensures f.ensures c.if-per-k.true in
    sym t ∙ l.invariant ∙ marks-first s (twos S 0 a.g.clusters)

pub loop-i-preserved : goal.loop-i-preserved
loop-i-preserved c =
    let a = c.args in
    let w = c.power in
    let l = c.loop-i in
    let f = c.row_fore-k in
    let r = c.row_at in
    let t = marks_later a.g a.image.now a.scratch.now c.requires.0 l.i w.result r.result f.result w.ensures.0 c.loop-i-test.true r.ensures f.ensures c.if-k-per.false c.if-per-k.false in
    t ∙ l.invariant

pub returns : goal.returns
returns c =
    let a = c.args in
    let s = a.image.now in
    let S = a.scratch.now in
    let l = c.loop-i in
    sym (marks-none a.g s S c.requires.0 l.i c.loop-i-test.false) ∙ l.invariant ∙ marks-first s (twos S 0 a.g.clusters)
