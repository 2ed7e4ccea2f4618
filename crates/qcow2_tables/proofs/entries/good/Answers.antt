use Rattle.endian.proofs.Entries.{take-entries, drop-entries}
use Rattle.qcow2_spec.specs.Header.{good_table}
use Rattle.blank.proofs.Zeros.{part-zeros}
use Rattle.qcow2_tables.proofs.entries.good.Goals as goal

pub returns-then-all_named : goal.returns-then-all_named
unfolding good_table
returns-then-all_named c =
    let a = c.args in
    let t = a.table.now in
    let p = c.requires.1 in
    rw (take-entries a.blocks a.count t p.0, drop-entries a.blocks a.count t p.0, ← c.all_named.ensures, c.if-all_named.true, ← part-zeros a.blocks a.count t p.0 p.1)
    c.all_clear.ensures

pub returns : goal.returns
unfolding good_table
returns c =
    let a = c.args in
    rw (take-entries a.blocks a.count a.table.now c.requires.1.0, ← c.all_named.ensures, c.if-all_named.false)
