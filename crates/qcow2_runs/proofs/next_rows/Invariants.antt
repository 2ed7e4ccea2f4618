use Prim.Native.Nat.{◌+◌, ◌-◌, ◌%◌, ◌^◌, ◌<◌, ◌≤◌}
use mathlib.Core.Path.{◌≡◌}
use Rattle.qcow2_runs.specs.Ends.{run_from}
use Rattle.qcow2_runs.proofs.next_rows.Given as goal

abbrev pub invariant-loop-i : goal.invariant-loop-i
invariant-loop-i l =
    (l.i ≤ l.len) × ((l.i < l.len → (l.x + l.i) % 2 ^ l.g.bits ≡ 0) × (run_from l.image l.g.root l.x l.i0 (l.len - l.i0) ≡ run_from l.image l.g.root l.x l.i (l.len - l.i)))

abbrev pub decreases-loop-i : goal.decreases-loop-i
decreases-loop-i l = l.len - l.i
