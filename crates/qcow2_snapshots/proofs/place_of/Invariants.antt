use mathlib.Core.Path.{◌≡◌}
use Rattle.qcow2_spec.specs.Header.{snapshot_at}
use Rattle.qcow2_snapshots.proofs.place_of.Given as goal

abbrev pub invariant-loop-i : goal.invariant-loop-i
invariant-loop-i l = l.p ≡ snapshot_at l.image l._i
