use native.Mathlib.Omega.{arith}
use Prim.Native.Nat.{◌^◌}
use Rattle.fills.specs.Padded.{padded}
use Rattle.qcow2_jobs.specs.Jobs.{job_units}
use Rattle.qcow2_clear.proofs.Clears.{within, clear_first}
use Rattle.qcow2_write.proofs.Some.{job_some}
use Rattle.qcow2_write.proofs.store.Goals as goal

pub clear-left-requires : goal.clear-left-requires
clear-left-requires c = c.requires.0.0

pub bytes_of-c-requires : goal.bytes_of-c-requires
bytes_of-c-requires c = c.requires.0.0.high

pub put_job-r-requires : goal.put_job-r-requires
put_job-r-requires c =
    rw (c.bytes_of-c.ensures.0, c.clear-left.auto.image) ((c.requires.0.1, c.requires.1.0), c.requires.0.0.short)

pub ended_after-requires : goal.ended_after-requires
ended_after-requires c = (omega (arith, c.clear-left.ensures.0), within _ _ _ _ _ c.put_job-r.ensures)

pub returns : goal.returns
returns c =
    let a = c.args in
    let p = c.put_job-r in
    let f = c.clear-left in
    let u = padded (2 ^ a.g.bits) a.base.now in
    let U = job_units a.job (2 ^ a.g.bits) a.o u a.src.now in
    rw c.ended_after.ensures (clear_first a.image.now a.allowance U f.result f.new.image p.new.image _ (job_some a.job _ a.o u a.src.now c.requires.1.1) f.ensures.0 f.ensures.1 (rw c.bytes_of-c.ensures.0 at p.ensures))
