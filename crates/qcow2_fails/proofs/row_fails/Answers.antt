use Rattle.qcow2_refs.specs.Walks.{row_at}
use Rattle.qcow2_fails.proofs.Failing.{figures-many, first_fair, row-marks, row_bads}
use Rattle.qcow2_fails.proofs.row_fails.Goals as goal

pub row_at-e-requires : goal.row_at-e-requires
row_at-e-requires c = c.requires.0

pub mark_right-requires : goal.mark_right-requires
mark_right-requires c =
    let o = c.requires.0.0 in
    let a = c.args in
    let s = a.image.now in
    let m = c.requires.1 c.if-marks.true in
    ((o.low, o.high), rw (c.row_at-e.ensures, figures-many a.g s a.scratch.now o m.0) (first_fair a.g s a.scratch.now o (row_at s a.g.root a.i) (m.1 a.i c.requires.0.1)))

pub returns-then-marks : goal.returns-then-marks
returns-then-marks c =
    let o = c.requires.0.0 in
    let a = c.args in
    let s = a.image.now in
    let m = c.requires.1 c.if-marks.true in
    rw (c.if-marks.true, c.mark_right.ensures, c.row_at-e.ensures, row-marks a.g s a.scratch.now o (row_at s a.g.root a.i) (m.1 a.i c.requires.0.1))

pub returns : goal.returns
returns c =
    let a = c.args in
    let s = a.image.now in
    rw (c.if-marks.false, c.good_l1.ensures, c.row_at-e.ensures, row_bads a.g s a.scratch.now c.requires.0.0 (row_at s a.g.root a.i))
