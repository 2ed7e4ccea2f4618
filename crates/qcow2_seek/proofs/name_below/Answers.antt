use Rattle.qcow2_seek.proofs.name_below.Goals as goal

pub returns-then-marks : goal.returns-then-marks
returns-then-marks c = rw c.if-marks.true

pub returns : goal.returns
returns c = rw c.if-marks.false
