use Rattle.qcow2_jobs.proofs.Slots.{ready-slot}
use Rattle.qcow2_jobs.proofs.Discards.{discard_as}
use Rattle.qcow2_jobs.proofs.releasing.find_release.Goals as goal

pub find_none-requires : goal.find_none-requires
find_none-requires c = c.requires.0

pub find_slot-requires : goal.find_slot-requires
find_slot-requires c =
    let a = c.args in
    let p = c.in-Slot in
    ready-slot a.g a.image.now a.way a.guest c.requires.1 p.at p.e p.is

pub returns-in-NoTable : goal.returns-in-NoTable
returns-in-NoTable c =
    let a = c.args in
    discard_as a.image.now _ a.way _ _ c.in-NoTable.is c.find_none.ensures

pub returns-in-Slot : goal.returns-in-Slot
returns-in-Slot c =
    let a = c.args in
    discard_as a.image.now _ a.way _ _ c.in-Slot.is c.find_slot.ensures
