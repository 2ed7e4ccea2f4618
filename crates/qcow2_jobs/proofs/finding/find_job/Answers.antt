use Rattle.qcow2_jobs.proofs.Slots.{ready-slot, ready-none}
use Rattle.qcow2_jobs.proofs.Writes.{write-none, write-there}
use Rattle.qcow2_jobs.proofs.finding.find_job.Goals as goal

pub find_table-requires : goal.find_table-requires
find_table-requires c =
    let a = c.args in
    (c.requires.0, ready-none a.g a.image.now a.way a.guest c.requires.1 c.in-NoTable.is)

pub find_slot-requires : goal.find_slot-requires
find_slot-requires c =
    let a = c.args in
    let p = c.in-Slot in
    ready-slot a.g a.image.now a.way a.guest c.requires.1 p.at p.e p.is

pub returns-in-NoTable : goal.returns-in-NoTable
returns-in-NoTable c =
    let a = c.args in
    write-none a.image.now _ a.way a.guest _ c.in-NoTable.is c.find_table.ensures

pub returns-in-Slot : goal.returns-in-Slot
returns-in-Slot c =
    let a = c.args in
    let p = c.in-Slot in
    write-there a.image.now _ a.way a.guest _ p.at p.e p.is (c.find_slot.ensures a.guest)
