-- `qcow2_rows::put_count` meets its contract. Assumes nothing.
use Rattle.qcow2_rows.proofs.put_count.Goals as goal

pub returns : goal.returns
returns c = rw (← c.span_of.ensures) c.put_row.ensures
