use Rattle.qcow2_header.specs.Chain.{from8}
use Rattle.qcow2_header.proofs.Laws.{oversize-is}
use Rattle.qcow2_header.proofs.judge_disk.Goals as goal

pub returns-then-oversize : goal.returns-then-oversize
unfolding from8
returns-then-oversize c = rw (← oversize-is _ _ c.requires.is, ← c.oversize.ensures, c.if-oversize.true) cc

pub returns : goal.returns
unfolding from8
returns c =
    rw (← oversize-is _ _ c.requires.is, ← c.oversize.ensures, c.if-oversize.false) c.judge_sectors.ensures
