use Prim.Native.Nat.{◌+◌, ◌-◌, ◌≤◌}
use mathlib.Core.Path.{◌≡◌}
use Rattle.qcow2_spec.specs.Guest.{ways_number}
use Rattle.qcow2_range.proofs.check_ways.Given as goal

abbrev pub invariant-loop-i : goal.invariant-loop-i
invariant-loop-i l = (l.i ≤ l.k) × (ways_number l.image l.g.root l.guest l.k ≡ ways_number l.image l.g.root (l.guest + l.i) (l.k - l.i))

abbrev pub decreases-loop-i : goal.decreases-loop-i
decreases-loop-i l = l.k - l.i
