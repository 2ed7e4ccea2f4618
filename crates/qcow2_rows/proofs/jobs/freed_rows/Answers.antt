-- `qcow2_rows::jobs::freed_rows` meets its contract. Assumes nothing.
use native.Mathlib.Omega.{arith}
use mathlib.Core.Path.{subst}
use Rattle.qcow2_spec.specs.Header.{most_length}
use Rattle.qcow2_jobs.specs.Jobs.{FreedIn}
use Rattle.qcow2_rows.proofs.Laws.{puts_then}
use Rattle.qcow2_rows.proofs.jobs.freed_rows.Goals as goal

pub put_count-requires : goal.put_count-requires
put_count-requires c =
    let h = subst (FreedIn most_length) c.in-Both.is c.requires.1 in
    omega (arith, c.requires.0, c.put_entry-a.ensures.0, h.1.few)

pub returns-in-Entry : goal.returns-in-Entry
returns-in-Entry c =
    let a = c.put_entry.ensures in
    rw c.in-Entry.is (omega (arith, c.requires.0, a.0), a.1)

pub returns-in-Both : goal.returns-in-Both
returns-in-Both c =
    let a = c.put_entry-a.ensures in
    let b = c.put_count.ensures in
    rw c.in-Both.is (omega (arith, c.requires.0, a.0, b.0), puts_then a.1 b.1)
