-- The answers as numbers for C: 0, a refusal's own number, or a code from 1001 on; and the values beside them.
-- Assumes nothing.
use Rattle.std.specs.Prelude.{ℕ, ◌-◌, eqb, if◌then◌else◌, Err, Ok, Result}
use Rattle.units.specs.declared.Ended.{Ended}
use Rattle.units.specs.declared.Ended.TheVariants.{Finished, Stopped}
use Rattle.qcow2_batches.specs.declared.Planned.{Planned}
use Rattle.qcow2_batches.specs.declared.Planned.TheVariants.{Ends, Rows as Held}
use Rattle.qcow2_spec.specs.declared.Verdict.{Verdict}
use Rattle.qcow2_spec.specs.declared.Verdict.TheVariants.{Sound, Leaks, BadL1, BadL2, Shared, Short, MarkL1, MarkL2, Refused as NotChecked}

-- a listing of runs: 0, or the number; and how many were listed
abbrev pub listed_code : Result ℕ ℕ → ℕ
listed_code (Err k) = k
listed_code (Ok n) = 0

abbrev pub listed_rows : Result ℕ ℕ → ℕ
listed_rows (Err k) = 0
listed_rows (Ok n) = n

-- a call planned into a batch: 0, that the batch ends, or the number; and how many rows the batch holds
abbrev pub planned_code : Result Planned ℕ → ℕ
planned_code (Err k) = k
planned_code (Ok Ends) = 1014
planned_code (Ok (Held n)) = 0

abbrev pub planned_rows : Result Planned ℕ → ℕ
planned_rows (Err k) = 0
planned_rows (Ok Ends) = 0
planned_rows (Ok (Held n)) = n

-- a write, discard or repair: 0 finished, stopped, or the number; and the units spent
abbrev pub outcome_code : Result Ended ℕ → ℕ
outcome_code (Ok (Finished u)) = 0
outcome_code (Ok (Stopped u)) = 1001
outcome_code (Err k) = k

abbrev pub outcome_units : Result Ended ℕ → ℕ
outcome_units (Ok (Finished u)) = u
outcome_units (Ok (Stopped u)) = u
outcome_units (Err k) = 0

-- a check: 0 sound, leaking, what is damaged, or the number; and what is named. Entries of a snapshot's tables have codes of their own
abbrev pub verdict_code : Verdict → ℕ
verdict_code Sound = 0
verdict_code (Leaks n) = 1004
verdict_code (BadL1 t i) = if eqb t 0 then 1005 else 1009
verdict_code (BadL2 t i j) = if eqb t 0 then 1006 else 1010
verdict_code (Shared k) = 1007
verdict_code (Short k) = 1008
verdict_code (MarkL1 i) = 1011
verdict_code (MarkL2 i j) = 1012
verdict_code (NotChecked k) = k

abbrev pub verdict_first : Verdict → ℕ
verdict_first Sound = 0
verdict_first (Leaks n) = n
verdict_first (BadL1 t i) = i
verdict_first (BadL2 t i j) = i
verdict_first (Shared k) = k
verdict_first (Short k) = k
verdict_first (MarkL1 i) = i
verdict_first (MarkL2 i j) = i
verdict_first (NotChecked k) = 0

abbrev pub verdict_second : Verdict → ℕ
verdict_second Sound = 0
verdict_second (Leaks n) = 0
verdict_second (BadL1 t i) = 0
verdict_second (BadL2 t i j) = j
verdict_second (Shared k) = 0
verdict_second (Short k) = 0
verdict_second (MarkL1 i) = 0
verdict_second (MarkL2 i j) = j
verdict_second (NotChecked k) = 0

-- the snapshot of a bad entry, from 0
abbrev pub verdict_third : Verdict → ℕ
verdict_third Sound = 0
verdict_third (Leaks n) = 0
verdict_third (BadL1 t i) = t - 1
verdict_third (BadL2 t i j) = t - 1
verdict_third (Shared k) = 0
verdict_third (Short k) = 0
verdict_third (MarkL1 i) = 0
verdict_third (MarkL2 i j) = 0
verdict_third (NotChecked k) = 0
