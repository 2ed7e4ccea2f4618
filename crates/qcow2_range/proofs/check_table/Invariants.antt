use Prim.Native.Nat.{◌-◌, ◌^◌}
use mathlib.Core.Path.{◌≡◌}
use Rattle.qcow2_range.specs.Slots.{slot, numbers}
use Rattle.qcow2_range.proofs.check_table.Given as goal

abbrev pub invariant-loop-i : goal.invariant-loop-i
invariant-loop-i l =
    numbers (slot l.version (2 ^ l.bits) l.n l.at l.table) l.from (l.end - l.from) ≡ numbers (slot l.version (2 ^ l.bits) l.n l.at l.table) l.i (l.end - l.i)
