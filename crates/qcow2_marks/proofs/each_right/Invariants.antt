use Prim.Native.Nat.{◌^◌}
use Rattle.qcow2_marks.specs.Marks.{Rights}
use Rattle.qcow2_marks.proofs.each_right.Given as goal

abbrev pub invariant-loop-j : goal.invariant-loop-j
invariant-loop-j l = Rights (2 ^ l.bits) l.scratch l.table l.i l.j
