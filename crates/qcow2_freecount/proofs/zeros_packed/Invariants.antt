use Prim.Native.Nat.{◌+◌, ◌-◌, ◌≤◌}
use mathlib.Core.Path.{◌≡◌}
use Rattle.choice.specs.Pick.{count}
use Rattle.packed.specs.Packed.{zero_at}
use Rattle.qcow2_freecount.proofs.zeros_packed.Given as goal

abbrev pub invariant-loop-j : goal.invariant-loop-j
invariant-loop-j l = (l.n ≤ l.j) × (l.n + count (zero_at l.order l.block) l.j (l.m - l.j) ≡ count (zero_at l.order l.block) 0 l.m)
