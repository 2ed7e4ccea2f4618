use Rattle.std.proofs.Common.{◌≡◌, ◌+◌, ◌*◌, ◌≤◌}
use Rattle.choice.specs.Pick.{count}
use Rattle.packed_filled.specs.Filled.{filled_at}
use Rattle.packed_filled.proofs.filled_halves.Given as goal

abbrev pub invariant-loop-x : goal.invariant-loop-x
invariant-loop-x l = ((l.low ≤ l.x-index) × (l.high ≤ l.x-index)) × (l.low + l.high ≡ count (filled_at 2 l.block) 0 (2 * l.x-index))
