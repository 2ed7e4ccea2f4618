use Prim.Native.Nat.{◌-◌, ◌*◌, ◌≤◌}
use mathlib.Core.Path.{◌≡◌}
use Rattle.choice.specs.Pick.{count}
use Rattle.packed.specs.Packed.{unlike_at, under_at}
use Rattle.packed_figures.proofs.narrow.Given as goal

abbrev pub invariant-loop-k : goal.invariant-loop-k
invariant-loop-k l =
    (l.k ≤ l.n) × ((l.unlike ≤ l.per * l.k) × (l.under ≤ l.per * l.k)) × (l.unlike ≡ count (unlike_at l.order l.block l.figures) 0 (l.per * l.k)) × (l.under ≡ count (under_at l.order l.block l.figures) 0 (l.per * l.k))

abbrev pub decreases-loop-k : goal.decreases-loop-k
decreases-loop-k l = l.n - l.k
