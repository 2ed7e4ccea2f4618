use Rattle.std.proofs.Common.{◌≡◌, ◌≤◌, length}
use Rattle.choice.specs.Pick.{count}
use Rattle.packed.specs.Packed.{unlike_at, under_at}
use Rattle.packed_figures.proofs.each.rest.Given as goal

abbrev pub invariant-loop-j : goal.invariant-loop-j
invariant-loop-j l =
    (l.j ≤ length l.figures) × ((l.unlike ≤ l.j) × (l.under ≤ l.j)) × (l.unlike ≡ count (unlike_at l.order l.block l.figures) 0 l.j) × (l.under ≡ count (under_at l.order l.block l.figures) 0 l.j)
