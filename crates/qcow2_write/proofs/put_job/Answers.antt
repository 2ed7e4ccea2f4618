use native.Mathlib.Omega.{arith}
use mathlib.Core.Path.{subst}
use lib.ListN.{length}
use Rattle.qcow2_jobs.specs.Jobs.{JobIn}
use Rattle.qcow2_jobs.specs.declared.finding.Job.{Job}
use Rattle.qcow2_write.proofs.Bases.{over-marked, few-marked}
use Rattle.qcow2_write.proofs.put_job.Goals as goal

pub overflow_add-p : goal.overflow_add-p
overflow_add-p c =
    let a = c.args in
    let p = c.in-Bytes in
    let h = subst (λ (j : Job). JobIn (length a.image.now) a.c j) p.is c.requires.0.0 in
    omega (arith, c.requires.0.1.0)

pub put_bytes-requires : goal.put_bytes-requires
put_bytes-requires c =
    let a = c.args in
    let p = c.in-Bytes in
    let h = subst (λ (j : Job). JobIn (length a.image.now) a.c j) p.is c.requires.0.0 in
    omega (arith, c.requires.0.1.0)

pub put_marked-requires : goal.put_marked-requires
put_marked-requires c =
    let a = c.args in
    let p = c.in-Marked in
    let h = subst (λ (j : Job). JobIn (length a.image.now) a.c j) p.is c.requires.0.0 in
    record { entered = h.0; inside = h.1; fits = c.requires.0.1.0; under = omega arith; short = c.requires.1 }

pub put_new-requires : goal.put_new-requires
put_new-requires c =
    let a = c.args in
    let p = c.in-New in
    let h = subst (λ (j : Job). JobIn (length a.image.now) a.c j) p.is c.requires.0.0 in
    (h.0, record { entered = h.1.0; inside = h.1.1; fits = c.requires.0.1.0; under = few-marked p.marked a.c a.base.now _ c.unmarked.ensures c.requires.0.1.1; short = c.requires.1 })

pub put_table-requires : goal.put_table-requires
put_table-requires c =
    let a = c.args in
    let p = c.in-Table in
    let h = subst (λ (j : Job). JobIn (length a.image.now) a.c j) p.is c.requires.0.0 in
    (h, (c.requires.0.1.0, omega (arith, c.requires.0.1)))

pub returns-in-Bytes : goal.returns-in-Bytes
returns-in-Bytes c = rw c.in-Bytes.is c.put_bytes.ensures

pub returns-in-Marked : goal.returns-in-Marked
returns-in-Marked c = rw c.in-Marked.is c.put_marked.ensures

pub returns-in-New : goal.returns-in-New
returns-in-New c =
    let a = c.args in
    let p = c.in-New in
    rw (p.is, ← over-marked p.marked a.c a.o a.base.now _ a.src.now c.unmarked.ensures c.requires.0.1.0) c.put_new.ensures

pub returns-in-Table : goal.returns-in-Table
returns-in-Table c = rw c.in-Table.is c.put_table.ensures
