-- `qcow2_rows::jobs::job_rows` meets its contract. Assumes nothing.
use native.Mathlib.Omega.{arith}
use mathlib.Core.Path.{subst}
use Rattle.qcow2_spec.specs.Header.{most_length}
use Rattle.qcow2_jobs.specs.Jobs.{JobIn}
use Rattle.qcow2_rows.proofs.Laws.{puts_then}
use Rattle.qcow2_rows.proofs.jobs.job_rows.Goals as goal

pub overflow_add-p : goal.overflow_add-p
overflow_add-p c =
    let h = subst (JobIn most_length c.args.c) c.in-Bytes.is c.requires.0.1 in
    omega (arith, h, c.requires.1)

pub put_count-a-requires : goal.put_count-a-requires
put_count-a-requires c =
    let h = subst (JobIn most_length c.args.c) c.in-New.is c.requires.0.1 in
    omega (arith, c.requires.0.0, h.0.few)

pub table_rows-requires : goal.table_rows-requires
table_rows-requires c =
    let h = subst (JobIn most_length c.args.c) c.in-Table.is c.requires.0.1 in
    (c.requires.0.0, h)

pub returns-in-Bytes : goal.returns-in-Bytes
returns-in-Bytes c =
    let a = c.put_row.ensures in
    rw c.in-Bytes.is (omega (arith, c.requires.0.0, a.0), a.1)

pub returns-in-Marked : goal.returns-in-Marked
returns-in-Marked c =
    let a = c.put_row-a.ensures in
    let b = c.put_entry.ensures in
    rw c.in-Marked.is (omega (arith, c.requires.0.0, a.0, b.0), puts_then a.1 b.1)

pub returns-in-New : goal.returns-in-New
returns-in-New c =
    let a = c.put_count-a.ensures in
    let b = c.put_row-b.ensures in
    let g = c.put_entry-in-New.ensures in
    rw c.in-New.is (omega (arith, c.requires.0.0, a.0, b.0, g.0), puts_then (puts_then a.1 b.1) g.1)

pub returns-in-Table : goal.returns-in-Table
returns-in-Table c =
    let a = c.table_rows.ensures in
    rw c.in-Table.is (a.0, a.1)
