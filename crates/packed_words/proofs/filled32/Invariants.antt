use Rattle.std.proofs.Common.{◌≡◌, ◌≤◌}
use Rattle.choice.specs.Pick.{count}
use Rattle.packed_filled.specs.Filled.{filled_at}
use Rattle.packed_words.proofs.filled32.Given as goal

abbrev pub invariant-loop-j : goal.invariant-loop-j
invariant-loop-j l = (l.n ≤ l.j) × (l.n ≡ count (filled_at 5 l.block) l.k l.j)
