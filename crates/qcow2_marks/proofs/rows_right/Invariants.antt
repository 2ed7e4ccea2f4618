use Rattle.tally.specs.States.{twos}
use Rattle.qcow2_spec.specs.Check.{wrong_marks}
use Rattle.qcow2_marks.specs.Marks.{UnharmedTo}
use Rattle.qcow2_marks.proofs.rows_right.Given as goal

abbrev pub invariant-loop-i : goal.invariant-loop-i
invariant-loop-i l = UnharmedTo l.image (wrong_marks l.image (twos l.scratch 0 l.g.clusters)) l.g.root l.i
