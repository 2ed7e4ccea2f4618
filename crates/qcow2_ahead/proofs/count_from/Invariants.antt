use Prim.Native.Nat.{suc, ◌+◌, ◌≤◌}
use mathlib.Core.Path.{◌≡◌}
use lib.ListN.{length}
use Rattle.qcow2_spec.specs.Header.{snapshots, snapshot_at}
use Rattle.qcow2_portions.specs.Rows.{ahead}
use Rattle.qcow2_ahead.proofs.count_from.Given as goal

abbrev pub invariant-loop-j : goal.invariant-loop-j
invariant-loop-j l = ((l.j ≤ snapshots l.image) × (l.at ≡ snapshot_at l.image l.j)) × (l.n + length (ahead l.image (suc l.j) 0) ≡ length (ahead l.image (suc l.k) 0))
