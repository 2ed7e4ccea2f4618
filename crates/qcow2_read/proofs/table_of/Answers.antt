use Rattle.qcow2_guest.specs.Rows.{table_of}
use Rattle.qcow2_read.proofs.table_of.Goals as goal

pub returns-then-good_l1 : goal.returns-then-good_l1
unfolding table_of
returns-then-good_l1 c = rw (← c.good_l1.ensures, c.if-good_l1.true) c.place_of.ensures.0

pub returns : goal.returns
unfolding table_of
returns c = rw (← c.good_l1.ensures, c.if-good_l1.false)
