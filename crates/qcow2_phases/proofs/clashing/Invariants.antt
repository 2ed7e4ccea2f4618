use mathlib.Core.Path.{◌≡◌}
use Rattle.qcow2_batches.specs.Batch.{clash}
use Rattle.qcow2_phases.specs.Ends.{in_rows}
use Rattle.qcow2_phases.proofs.Turns.{rows_from}
use Rattle.qcow2_phases.proofs.clashing.Given as goal

abbrev pub invariant-loop-i : goal.invariant-loop-i
invariant-loop-i l = clash (in_rows l.p l.ys) (in_rows l.q l.zs) ≡ clash (in_rows l.p l.ys) (rows_from l.q l.zs l.n l.i)
