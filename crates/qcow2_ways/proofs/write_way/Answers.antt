use native.Mathlib.Omega.{arith}
use Prim.Native.Nat.{◌^◌}
use mathlib.Core.Path.{sym, ◌∙◌}
use lib.ListN.{length}
use Rattle.std.specs.Prelude.{Ok}
use Rattle.std.proofs.lemmas.Result.{err_from_is_err_and}
use Rattle.qcow2_jobs.specs.Jobs.{job_units}
use Rattle.qcow2_spec.specs.Store.{backing_cluster, write_way}
use Rattle.qcow2_write.proofs.Some.{job_some}
use Rattle.qcow2_rows.proofs.Laws.{puts_same}
use Rattle.qcow2_rows.proofs.Lists.{rows_job}
use Rattle.qcow2_ways.proofs.Listings.{length_backing, list_refused, list_units, clearing-refused, clearing-some}
use Rattle.qcow2_ways.proofs.Most.{job_most}
use Rattle.qcow2_ways.proofs.write_way.Goals as goal

pub find_job-requires : goal.find_job-requires
find_job-requires c = c.requires.0

pub clear_row-k-requires : goal.clear_row-k-requires
clear_row-k-requires c = c.requires.0.0.0

pub bytes_of-c-requires : goal.bytes_of-c-requires
bytes_of-c-requires c = c.requires.0.0.0.high

pub job_rows-n-requires : goal.job_rows-n-requires
job_rows-n-requires c =
    let a = c.args in
    let n = length a.image.now in
    let i = c.in_ok-job.ensures.inside in
    rw c.bytes_of-c.ensures.0 ((omega (arith, c.clear_row-k.ensures.0), job_most n c.requires.0.0.0.short (2 ^ a.g.bits) c.in_ok-job.job i), omega (arith, c.requires.1.0))

pub returns-in_err-job : goal.returns-in_err-job
returns-in_err-job c b d e =
    let a = c.args in
    let l = a.image.now in
    let p = err_from_is_err_and c.from_residual.result c.from_residual.ensures.1 in
    rw (p.1, p.2) (list_refused l _ a.rows.now _ (clearing-refused l (write_way b l (Ok a.way) a.guest a.o d) _ (sym (c.in_err-job.ensures.same b a.o d))))

pub returns : goal.returns
returns c b d e =
    let a = c.args in
    let l = a.image.now in
    let u = backing_cluster b l a.guest in
    let U = job_units c.in_ok-job.job (2 ^ a.g.bits) a.o u d in
    let f = c.bytes_of-c.ensures.0 in
    let k = c.clear_row-k in
    let j = c.job_rows-n in
    rw (clearing-some l (write_way b l (Ok a.way) a.guest a.o d) U (sym (c.in_ok-job.ensures.same b a.o d)) (job_some c.in_ok-job.job _ a.o u d (omega (arith, e, c.requires.1.1))))
    (list_units l U a.rows.now _ _ _ _ _ k.ensures.1 (puts_same (rows_job c.in_ok-job.job _ a.o a.len u d (length_backing b l a.guest _ c.requires.0.0.0.is-cluster) e c.requires.1.0 c.requires.1.1) (rw f at j.ensures.1)) (j.auto.rows ∙ k.auto.rows) c.listed.ensures)
