-- `qcow2_planways::plan_write` meets its contract. Assumes nothing.
use Prim.Native.Nat.{◌^◌}
use native.Mathlib.Omega.{arith}
use mathlib.Core.Path.{sym, ◌∙◌}
use lib.ListN.{length}
use Rattle.qcow2_spec.specs.Store.{backing_cluster, write_way}
use Rattle.std.specs.Prelude.{Ok}
use Rattle.std.proofs.lemmas.Result.{err_from_is_err_and}
use Rattle.qcow2_jobs.specs.Jobs.{job_units}
use Rattle.qcow2_write.proofs.Some.{job_some}
use Rattle.qcow2_ways.proofs.Listings.{length_backing, clearing-refused, clearing-some}
use Rattle.qcow2_ways.proofs.Most.{job_most}
use Rattle.qcow2_phases.proofs.Plannings.{planning_refused, planning_units}
use Rattle.qcow2_planways.proofs.plan_write.Goals as goal

pub find_job-requires : goal.find_job-requires
find_job-requires c = c.requires.0

pub bytes_of-c-requires : goal.bytes_of-c-requires
bytes_of-c-requires c = c.requires.0.0.0.high

pub add_job-n-requires : goal.add_job-n-requires
add_job-n-requires c =
    let l = c.args.image.now in
    let b = 2 ^ c.args.g.bits in
    let f = c.in_ok-job.ensures in
    let o = c.requires.0.0.0 in
    rw c.bytes_of-c.ensures.0 ((o, (job_most (length l) o.short b c.in_ok-job.job f.inside, c.requires.1.0)), (f.fresh, c.requires.1.1))

pub returns-in_err-job : goal.returns-in_err-job
returns-in_err-job c b d e =
    let a = c.args in
    let l = a.image.now in
    let p = err_from_is_err_and c.from_residual.result c.from_residual.ensures.1 in
    rw (p.1, p.2) (planning_refused l _ a.k a.rows.now _ (clearing-refused l (write_way b l (Ok a.way) a.guest a.o d) _ (sym (c.in_err-job.ensures.same b a.o d))))

pub returns : goal.returns
returns c b d e =
    let a = c.args in
    let l = a.image.now in
    let u = backing_cluster b l a.guest in
    let f = c.bytes_of-c.ensures.0 in
    let q = c.requires.0.0.0.is-cluster in
    rw (clearing-some l (write_way b l (Ok a.way) a.guest a.o d) (job_units c.in_ok-job.job (2 ^ a.g.bits) a.o u d) (sym (c.in_ok-job.ensures.same b a.o d)) (job_some c.in_ok-job.job _ a.o u d (omega (arith, e, c.requires.1.1))))
    (planning_units l _ a.k a.rows.now _ _ (rw f at (c.add_job-n.ensures u d (length_backing b l a.guest _ (f ∙ q)) e)) _ c.planned.ensures)
