-- `qcow2_shown::last_phase` meets its contract. Assumes nothing.
use native.Mathlib.Omega.{arith}
use mathlib.Core.Path.{subst}
use Rattle.qcow2_spec.specs.Header.{most_length}
use Rattle.qcow2_jobs.specs.Jobs.{JobIn}
use Rattle.qcow2_shown.proofs.last_phase.Goals as goal

pub after_new-requires : goal.after_new-requires
after_new-requires c =
    let h = subst (JobIn most_length c.args.c) c.in-New.is c.requires in
    omega (arith, h.0.few)

pub after_table-requires : goal.after_table-requires
after_table-requires c =
    let h = subst (JobIn most_length c.args.c) c.in-Table.is c.requires in
    omega (arith, h.tablecounted.few)

pub returns-in-Bytes : goal.returns-in-Bytes
returns-in-Bytes c = rw c.in-Bytes.is

pub returns-in-Marked : goal.returns-in-Marked
returns-in-Marked c = rw c.in-Marked.is c.after_cluster.ensures

pub returns-in-New : goal.returns-in-New
returns-in-New c = rw c.in-New.is c.after_new.ensures

pub returns-in-Table : goal.returns-in-Table
returns-in-Table c = rw c.in-Table.is c.after_table.ensures
