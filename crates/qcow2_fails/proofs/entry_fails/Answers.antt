use Rattle.qcow2_fails.proofs.entry_fails.Goals as goal

pub mark_right-requires : goal.mark_right-requires
mark_right-requires c = (c.requires.0, c.requires.1 c.if-marks.true)

pub returns-then-marks : goal.returns-then-marks
returns-then-marks c = rw (c.if-marks.true, c.mark_right.ensures)

pub returns : goal.returns
returns c = rw (c.if-marks.false, c.good_l2.ensures)
