use Prim.Native.Nat.{◌-◌, ◌≤◌}
use mathlib.Core.Path.{◌≡◌}
use Rattle.choice.specs.Pick.{count}
use Rattle.packed.specs.Packed.{unlike_at, under_at}
use Rattle.packed_groups.proofs.numbers32.Given as goal

abbrev pub invariant-loop-k : goal.invariant-loop-k
invariant-loop-k l =
    (l.k ≤ l.m) × ((l.unlike ≤ l.k) × (l.under ≤ l.k)) × (l.unlike ≡ count (unlike_at 5 l.block l.figures) 0 l.k) × (l.under ≡ count (under_at 5 l.block l.figures) 0 l.k)

abbrev pub decreases-loop-k : goal.decreases-loop-k
decreases-loop-k l = l.m - l.k
