-- What a discard stores is not nothing. Assumes nothing.
use Prim.Native.Nat.{◌<◌}
use native.Mathlib.Omega.{arith}
use lib.ListN.{length}
use Rattle.qcow2_jobs.specs.Jobs.{freed_units}
use Rattle.qcow2_jobs.specs.declared.releasing.Freed.{Freed}
use Rattle.qcow2_jobs.specs.declared.releasing.Freed.TheVariants.{Entry, Both}

pub freed-some : (f : Freed) → 0 < length (freed_units f)
freed-some (Entry a x) = omega arith
freed-some (Both a x r k v) = omega arith
