-- What a write stores is not nothing. Assumes nothing.
use Prim.Native.Nat.{ℕ, ◌+◌, ◌<◌}
use native.Mathlib.Omega.{arith}
use mathlib.Core.List.{List, [], ◌∷◌}
use lib.ListN.{length, length-append}
use Rattle.units.specs.Units.{entry, fill, cluster}
use Rattle.units.proofs.Laws.{length-fill}
use Rattle.qcow2_spec.specs.Entries.{new_entry}
use Rattle.qcow2_put.specs.Links.{table_units}
use Rattle.qcow2_jobs.specs.Jobs.{job_units}
use Rattle.qcow2_jobs.specs.declared.finding.Job.{Job}
use Rattle.qcow2_jobs.specs.declared.finding.Job.TheVariants.{Bytes, Marked, New, Table}

-- a job with data has a unit
pub job_some : (j : Job) (c o : ℕ) (under d : List ℕ) → 0 < length d → 0 < length (job_units j c o under d)
unfolding table_units
job_some (Bytes p) c o under d h = omega (arith, length-fill d (p + o))
job_some (Marked a p) c o under d h = omega (arith, length-append (fill p (cluster c o d)) (entry a (new_entry p) ∷ []))
job_some (New m r n a p) c o under d h = omega arith
job_some (Table p) c o under d h = omega arith
