use native.Mathlib.Omega.{arith}
use Rattle.qcow2_counts.proofs.Sizes.{inside-at}
use Rattle.qcow2_jobs.proofs.Writes.{free-zero, full, newly}
use Rattle.qcow2_jobs.proofs.finding.find_new.Goals as goal

pub free_from-k-requires : goal.free_from-k-requires
free_from-k-requires c = c.requires.0

pub count_at-count_at-requires : goal.count_at-count_at-requires
count_at-count_at-requires c = (c.requires.0, omega arith)

pub returns-then-g-k : goal.returns-then-g-k
returns-then-g-k c guest =
    let a = c.args in
    rw (c.into.ensures, ← c.free_from-k.ensures) (full a.g a.image.now c.requires.0 guest a.entry_at c.free_from-k.result a.e c.if-g-k.true)

pub overflow_mul-job : goal.overflow_mul-job
overflow_mul-job c =
    let a = c.args in
    let h = inside-at a.g a.image.now c.requires.0 c.free_from-k.result c.bytes_of.result (omega arith) c.bytes_of.ensures.0 in
    omega (arith, c.requires.0.short)

pub returns : goal.returns
returns c guest =
    let a = c.args in
    let f = c.free_from-k in
    let n = c.count_at-count_at in
    let m = c.has_mark in
    let b = c.bytes_of in
    rw (← f.ensures) (newly a.g a.image.now c.requires.0 guest a.entry_at f.result a.e m.result n.result b.result m.ensures (omega arith) (free-zero a.image.now 0 _ f.ensures (omega (arith, c.requires.0.is-clusters))) c.requires.1 n.ensures.0 n.ensures.1 b.ensures.0)
