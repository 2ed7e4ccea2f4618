use Prim.Native.Nat.{◌+◌, ◌-◌, ◌*◌, ◌≤◌, min}
use mathlib.Core.Path.{◌≡◌}
use Rattle.choice.specs.Pick.{count}
use Rattle.qcow2_spec.specs.Counts.{free_at}
use Rattle.qcow2_freecount.proofs.free_clusters.Given as goal

abbrev pub invariant-loop-k : goal.invariant-loop-k
invariant-loop-k l =
    (l.k ≤ l.n) × (l.k ≡ min (l.b * l.per) l.n) × (l.found ≤ l.k) × (l.found + count (free_at l.image) l.k (l.n - l.k) ≡ count (free_at l.image) 0 l.n)

abbrev pub decreases-loop-k : goal.decreases-loop-k
decreases-loop-k l = l.n - l.k
