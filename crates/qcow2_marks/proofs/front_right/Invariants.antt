use Prim.Native.Nat.{◌*◌, ◌^◌}
use Rattle.qcow2_marks.specs.Marks.{Rights}
use Rattle.qcow2_marks.proofs.front_right.Given as goal

abbrev pub invariant-loop-d : goal.invariant-loop-d
invariant-loop-d l = Rights (2 ^ l.bits) l.scratch l.table 0 (64 * l.d)
