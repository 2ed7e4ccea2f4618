-- `qcow2_added::put_freed` meets its contract. Assumes nothing.
use native.Mathlib.Omega.{arith}
use Rattle.qcow2_rows.proofs.Laws.{puts_then}
use Rattle.qcow2_added.proofs.put_freed.Goals as goal

pub freed_rows-requires : goal.freed_rows-requires
freed_rows-requires c = (omega (arith, c.clear_row-k.ensures.0), c.requires.1)

pub clear_row-k-requires : goal.clear_row-k-requires
clear_row-k-requires c = c.requires.0

pub returns : goal.returns
returns c = puts_then c.clear_row-k.ensures.1 c.freed_rows.ensures.1
