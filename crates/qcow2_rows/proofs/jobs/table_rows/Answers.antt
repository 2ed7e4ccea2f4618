-- `qcow2_rows::jobs::table_rows` meets its contract. Assumes nothing.
use native.Mathlib.Omega.{arith}
use Rattle.qcow2_rows.proofs.Laws.{puts_then}
use Rattle.qcow2_rows.proofs.jobs.table_rows.Goals as goal

pub returns : goal.returns
returns c =
    let a = c.put_count-a.ensures in
    let b = c.put_row-b.ensures in
    let d = c.put_count-d.ensures in
    let e = c.put_row-e.ensures in
    let f = c.put_entry-f.ensures in
    let g = c.put_entry.ensures in (omega (arith, c.requires.0, a.0, b.0, d.0, e.0, f.0, g.0), puts_then (puts_then (puts_then (puts_then (puts_then a.1 b.1) d.1) e.1) f.1) g.1)
