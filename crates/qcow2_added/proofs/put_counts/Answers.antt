-- `qcow2_added::put_counts` meets its contract. Assumes nothing.
use native.Mathlib.Omega.{arith}
use Rattle.qcow2_repair.proofs.Midway.{refs_long}
use Rattle.qcow2_repair.proofs.Repairs.{repair_figured}
use Rattle.qcow2_rows.proofs.Laws.{puts_then}
use Rattle.qcow2_added.proofs.put_counts.Goals as goal

pub clear_row-k-requires : goal.clear_row-k-requires
clear_row-k-requires c = c.requires.opened

pub count_rows-requires : goal.count_rows-requires
count_rows-requires c =
    let a = c.args in
    (c.requires.opened, (omega (arith, c.clear_row-k.ensures.0), omega (arith, refs_long a.image.now a.refs.now c.requires.figures, c.requires.opened.is-clusters)))

pub returns : goal.returns
returns c =
    let a = c.args in
    puts_then c.clear_row-k.ensures.1 (rw (repair_figured a.g a.image.now a.refs.now c.requires) at c.count_rows.ensures.1)
