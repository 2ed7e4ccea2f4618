use Rattle.qcow2_swept.specs.Rows.{Blank}
use Rattle.qcow2_swept.proofs.skip.Given as goal

abbrev pub invariant-loop-j : goal.invariant-loop-j
invariant-loop-j l = Blank l.image l.at l.i l.j
