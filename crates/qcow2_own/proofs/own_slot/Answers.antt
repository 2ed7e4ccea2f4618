use mathlib.Core.Path.{◌≡◌, sym, ◌∙◌}
use mathlib.Core.Bool.{true, false}
use Rattle.qcow2_spec.specs.Entries.{common}
use Rattle.qcow2_spec.specs.Store.{own_slot}
use Rattle.qcow2_own.proofs.own_slot.Goals as goal

pub returns-then-is_common : goal.returns-then-is_common
unfolding own_slot
returns-then-is_common c =
    let t : common c.in-Slot.e ≡ true = sym c.is_common.ensures ∙ c.if-is_common.true in
    rw (c.into.ensures, c.in-Slot.is, t)

pub returns-in-NoTable : goal.returns-in-NoTable
unfolding own_slot
returns-in-NoTable c = rw c.in-NoTable.is

pub returns-else-is_common : goal.returns-else-is_common
unfolding own_slot
returns-else-is_common c =
    let t : common c.in-Slot.e ≡ false = sym c.is_common.ensures ∙ c.if-is_common.false in
    rw (c.in-Slot.is, t)
