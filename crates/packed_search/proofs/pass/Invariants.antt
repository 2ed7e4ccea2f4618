use Prim.Native.Nat.{◌-◌, ◌*◌, ◌%◌, ◌^◌, ◌≤◌}
use mathlib.Core.Path.{◌≡◌}
use Rattle.choice.specs.Pick.{first}
use Rattle.packed.specs.Packed.{zero_at}
use Rattle.packed_search.proofs.pass.Given as goal

abbrev pub invariant-loop-k : goal.invariant-loop-k
invariant-loop-k g l = (l.k ≤ l.end) × ((2 ^ l.order * l.k % 8 ≡ 0) × (first (zero_at l.order l.block) l.j (l.end - l.j) ≡ first (zero_at l.order l.block) l.k (l.end - l.k)))

abbrev pub decreases-loop-k : goal.decreases-loop-k
decreases-loop-k g l = l.end - l.k
