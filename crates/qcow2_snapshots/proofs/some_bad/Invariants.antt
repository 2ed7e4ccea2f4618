use Prim.Native.Nat.{◌-◌}
use mathlib.Core.Path.{◌≡◌}
use Rattle.choice.specs.Pick.{first}
use Rattle.qcow2_spec.specs.Header.{snapshot_at, bad_snapshot}
use Rattle.qcow2_snapshots.proofs.some_bad.Given as goal

abbrev pub invariant-loop-k : goal.invariant-loop-k
invariant-loop-k l =
    (l.p ≡ snapshot_at l.image l._k) × (first (bad_snapshot l.image) l._k (l.count - l._k) ≡ first (bad_snapshot l.image) 0 l.count)
