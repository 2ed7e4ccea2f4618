use Prim.Native.Nat.{◌-◌}
use mathlib.Core.Path.{◌≡◌}
use Rattle.choice.specs.Pick.{first}
use Rattle.packed.specs.Packed.{zero_at}
use Rattle.packed_search.proofs.lowest_each.Given as goal

abbrev pub invariant-loop-k : goal.invariant-loop-k
invariant-loop-k l = first (zero_at l.order l.block) l.j (l.end - l.j) ≡ first (zero_at l.order l.block) l.k (l.end - l.k)
