use Prim.Native.Nat.{◌+◌, ◌*◌}
use Rattle.qcow2_swept.specs.Rows.{Blank}
use Rattle.qcow2_swept.proofs.skip_groups.Given as goal

abbrev pub invariant-loop-d : goal.invariant-loop-d
invariant-loop-d l = Blank l.image l.at l.i (l.i + 64 * l.d)
