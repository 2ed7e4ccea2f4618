use Rattle.qcow2_header.proofs.Laws.{oversize-is, sectors-is, tables-is}
use Rattle.qcow2_headed.specs.Numbers.{place_number}
use Rattle.qcow2_headed.proofs.check_places.Goals as goal

pub returns-then-oversize : goal.returns-then-oversize
unfolding place_number
returns-then-oversize c = rw (← oversize-is _ _ c.requires.is, ← c.oversize.ensures, c.if-oversize.true) cc

pub returns-then-part_sector : goal.returns-then-part_sector
unfolding place_number
returns-then-part_sector c =
    let i = c.requires.is in
    rw (← oversize-is _ _ i, ← c.oversize.ensures, c.if-oversize.false, ← sectors-is _ _ i, ← c.part_sector.ensures, c.if-part_sector.true) cc

pub returns-then-misplaced_tables : goal.returns-then-misplaced_tables
unfolding place_number
returns-then-misplaced_tables c =
    let i = c.requires.is in
    rw (← oversize-is _ _ i, ← c.oversize.ensures, c.if-oversize.false, ← sectors-is _ _ i, ← c.part_sector.ensures, c.if-part_sector.false, ← tables-is _ _ i, ← c.misplaced_tables.ensures, c.if-misplaced_tables.true) cc

pub returns : goal.returns
unfolding place_number
returns c =
    let i = c.requires.is in
    rw (← oversize-is _ _ i, ← c.oversize.ensures, c.if-oversize.false, ← sectors-is _ _ i, ← c.part_sector.ensures, c.if-part_sector.false, ← tables-is _ _ i, ← c.misplaced_tables.ensures, c.if-misplaced_tables.false)
