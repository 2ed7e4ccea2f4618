use Rattle.std.proofs.Common.{◌≡◌, ◌≤◌}
use Rattle.choice.specs.Pick.{count}
use Rattle.packed_filled.specs.Filled.{filled_at}
use Rattle.packed_filled.proofs.filled_whole.Given as goal

abbrev pub invariant-loop-x : goal.invariant-loop-x
invariant-loop-x l = (l.n ≤ l.x-index) × (l.n ≡ count (filled_at 3 l.block) 0 l.x-index)
