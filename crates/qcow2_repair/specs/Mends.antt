-- What a repair does by the verdict.
-- Assumes nothing.
use Rattle.std.specs.Prelude.{ℕ, List, [], Result, Ok, Err}
use Rattle.units.specs.Plan.{Plan, refused, units}
use Rattle.qcow2_spec.specs.Header.{clusters}
use Rattle.qcow2_spec.specs.References.{figures_of}
use Rattle.qcow2_spec.specs.Check.{repair_units}
use Rattle.qcow2_spec.specs.declared.Verdict.{Verdict}
use Rattle.qcow2_spec.specs.declared.Verdict.TheVariants.{Sound, Leaks, BadL1, BadL2, Shared, Short, MarkL1, MarkL2, Refused}
use Rattle.qcow2_repair.specs.declared.Mending.{Mending}
use Rattle.qcow2_repair.specs.declared.Mending.TheVariants.{Nothing, Counts}

-- 17 where the image is damaged, and its own number where the check was refused
unfoldable pub mending_of : Verdict → Result Mending ℕ
mending_of Sound = Ok Nothing
mending_of (Leaks m) = Ok Counts
mending_of (BadL1 t i) = Err 17
mending_of (BadL2 t i j) = Err 17
mending_of (Shared k) = Err 17
mending_of (Short k) = Err 17
mending_of (MarkL1 i) = Err 17
mending_of (MarkL2 i j) = Err 17
mending_of (Refused k) = Err k

-- its plan on the image s
abbrev pub mend_plan : List ℕ → Result Mending ℕ → Plan
mend_plan s (Err k) = refused k
mend_plan s (Ok Nothing) = units []
mend_plan s (Ok Counts) = units (repair_units s (figures_of s) 0 (clusters s))
