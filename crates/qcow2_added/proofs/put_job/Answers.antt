-- `qcow2_added::put_job` meets its contract. Assumes nothing.
use native.Mathlib.Omega.{arith}
use Rattle.qcow2_rows.proofs.Laws.{puts_then}
use Rattle.qcow2_added.proofs.put_job.Goals as goal

pub job_rows-requires : goal.job_rows-requires
job_rows-requires c = ((omega (arith, c.clear_row-k.ensures.0), c.requires.1.0), c.requires.1.1)

pub clear_row-k-requires : goal.clear_row-k-requires
clear_row-k-requires c = c.requires.0

pub returns : goal.returns
returns c = puts_then c.clear_row-k.ensures.1 c.job_rows.ensures.1
