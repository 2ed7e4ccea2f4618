use Rattle.std.proofs.Common.{◌≡◌, ◌-◌, ◌*◌, ◌^◌, ◌≤◌}
use Rattle.choice.specs.Pick.{count}
use Rattle.packed_filled.specs.Filled.{filled_at}
use Rattle.packed_filled.proofs.filled_bytes.Given as goal

abbrev pub invariant-loop-x : goal.invariant-loop-x
invariant-loop-x l = (l.n ≤ 8 * l.x-index) × (l.n ≡ count (filled_at l.order l.block) 0 (2 ^ (3 - l.order) * l.x-index))
