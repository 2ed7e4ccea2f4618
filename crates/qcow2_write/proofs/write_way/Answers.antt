use Prim.Native.Nat.{◌^◌}
use mathlib.Core.Path.{sym}
use Rattle.std.specs.Prelude.{Ok}
use Rattle.std.proofs.lemmas.Result.{err_from_is_err_and}
use Rattle.qcow2_jobs.specs.Jobs.{job_units}
use Rattle.qcow2_spec.specs.Store.{backing_cluster, write_way}
use Rattle.qcow2_clear.proofs.Clears.{clear-refused, clear-stored}
use Rattle.qcow2_write.proofs.Some.{job_some}
use Rattle.qcow2_write.proofs.write_way.Goals as goal

pub returns-in_err-job : goal.returns-in_err-job
returns-in_err-job c =
    let a = c.args in
    let l = a.image.now in
    let b = a.backing.now in
    let p = err_from_is_err_and c.from_residual.result c.from_residual.ensures.1 in
    rw (p.1, p.2) (clear-refused l a.allowance (write_way b l (Ok a.way) a.guest a.o a.src.now) _ (sym (c.in_err-job.ensures.same b a.o a.src.now)))

pub returns : goal.returns
returns c =
    let a = c.args in
    let l = a.image.now in
    let b = a.backing.now in
    let p = c.in_ok-job in
    let u = backing_cluster b l a.guest in
    let U = job_units p.job (2 ^ a.g.bits) a.o u a.src.now in
    clear-stored l a.allowance (write_way b l (Ok a.way) a.guest a.o a.src.now) U _ _ (sym (p.ensures.same b a.o a.src.now)) (job_some p.job _ a.o u a.src.now c.requires.1.1) (rw (c.base_of-base.ensures.same l c.requires.0.0.0) c.store.ensures)
