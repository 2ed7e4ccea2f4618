use mathlib.Core.Path.{◌≡◌}
use Rattle.qcow2_batches.specs.Batch.{meets}
use Rattle.qcow2_phases.specs.Ends.{in_rows}
use Rattle.qcow2_phases.proofs.Turns.{rows_from}
use Rattle.qcow2_phases.proofs.scan.Given as goal

abbrev pub invariant-loop-i : goal.invariant-loop-i
invariant-loop-i l = meets (in_rows l.p l.rows) l.at l.len ≡ meets (rows_from l.p l.rows l.n l.i) l.at l.len
