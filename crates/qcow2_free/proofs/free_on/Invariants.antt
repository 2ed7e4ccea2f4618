use Prim.Native.Nat.{◌+◌, ◌-◌, ◌*◌, ◌%◌, ◌≤◌, ◌<◌, min}
use mathlib.Core.Path.{◌≡◌}
use Rattle.choice.specs.Pick.{first}
use Rattle.qcow2_spec.specs.Counts.{free_at}
use Rattle.qcow2_free.proofs.free_on.Given as goal

abbrev pub invariant-loop-j : goal.invariant-loop-j
invariant-loop-j l =
    (((l.left ≤ l.g.clusters) × (l.g.clusters - l.left ≡ min (l.b * l.per) l.g.clusters)) × ((l.j ≤ l.left) × ((l.j < l.per) × (l.j < l.left → l.j % 8 ≡ 0))))
    × (first (free_at l.image) l.start (l.g.clusters - l.start) ≡ first (free_at l.image) (l.g.clusters - l.left + l.j) (l.g.clusters - (l.g.clusters - l.left + l.j)))

abbrev pub decreases-loop-j : goal.decreases-loop-j
decreases-loop-j l = l.left
