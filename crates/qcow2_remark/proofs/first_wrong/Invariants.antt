use mathlib.Core.Path.{◌≡◌}
use Rattle.tally.specs.States.{twos}
use Rattle.qcow2_remark.proofs.Marking.{marks_from}
use Rattle.qcow2_remark.proofs.first_wrong.Given as goal

abbrev pub invariant-loop-i : goal.invariant-loop-i
invariant-loop-i l = let fs = twos l.scratch 0 l.g.clusters in marks_from l.image fs l.i ≡ marks_from l.image fs 0
