use Rattle.std.proofs.Common.{◌≡◌, ◌≤◌}
use Rattle.choice.specs.Pick.{count}
use Rattle.packed.specs.Packed.{unlike_at, under_at}
use Rattle.packed_bytes.proofs.group8.Given as goal

abbrev pub invariant-loop-b : goal.invariant-loop-b
invariant-loop-b l =
    ((l.unlike ≤ l.b) × (l.under ≤ l.b)) × (l.unlike ≡ count (unlike_at 3 l.block l.figures) 0 l.b) × (l.under ≡ count (under_at 3 l.block l.figures) 0 l.b)
