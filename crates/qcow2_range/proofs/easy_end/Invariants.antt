use Prim.Native.Nat.{ℕ, ◌-◌, ◌^◌}
use mathlib.Core.Path.{◌≡◌}
use Rattle.qcow2_range.specs.Slots.{slot, numbers}
use Rattle.qcow2_range.proofs.easy_end.Given as goal

abbrev pub invariant-loop-i : goal.invariant-loop-i
invariant-loop-i l =
    (v : ℕ) → (at : ℕ) → numbers (slot v (2 ^ l.bits) l.n at l.table) l.from (l.end - l.from) ≡ numbers (slot v (2 ^ l.bits) l.n at l.table) l.i (l.end - l.i)
