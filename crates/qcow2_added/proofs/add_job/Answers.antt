-- `qcow2_added::add_job` meets its contract. Assumes nothing.
use native.Mathlib.Omega.{arith}
use mathlib.Core.Path.{sym}
use lib.Seq.{length-take-le}
use Rattle.qcow2_batches.specs.Rows.{rows_in}
use Rattle.qcow2_added.proofs.Own.{rows_job}
use Rattle.qcow2_added.proofs.Parts.{lent_in, added-part}
use Rattle.qcow2_added.proofs.add_job.Goals as goal

pub last_phase-last-requires : goal.last_phase-last-requires
last_phase-last-requires c = c.requires.0.1.0

pub put_job-requires : goal.put_job-requires
put_job-requires c = c.requires.0

pub slice_bounds-last_phase-end-2 : goal.slice_bounds-last_phase-end-2
slice_bounds-last_phase-end-2 c = sym (length-take-le _ c.args.rows.now (omega (arith, c.past-a.ensures)))

pub returns : goal.returns
returns c u d f q =
    let a = c.args in
    let l = a.image.now in
    let o = a.rows.now in
    let e = c.past-a.ensures in
    added-part a.k o _ e l _ _ _ _ (rows_job l (rows_in 1 a.k o) a.job a.c a.o a.len u d c.requires.1.0 f q c.requires.0.1.1 c.requires.1.1) (rw (c.last_phase-last.ensures, lent_in a.k o _ e 1) at c.put_job.ensures)
