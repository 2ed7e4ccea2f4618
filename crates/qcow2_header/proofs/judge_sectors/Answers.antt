use Rattle.qcow2_header.specs.Chain.{from18}
use Rattle.qcow2_header.proofs.Laws.{sectors-is}
use Rattle.qcow2_header.proofs.judge_sectors.Goals as goal

pub returns-then-part_sector : goal.returns-then-part_sector
unfolding from18
returns-then-part_sector c = rw (← sectors-is _ _ c.requires.is, ← c.part_sector.ensures, c.if-part_sector.true) cc

pub returns : goal.returns
unfolding from18
returns c =
    rw (← sectors-is _ _ c.requires.is, ← c.part_sector.ensures, c.if-part_sector.false) c.judge_tables.ensures
