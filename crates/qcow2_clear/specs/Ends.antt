-- How a list that begins with the clearing unit ends.
-- Assumes nothing.
use Rattle.std.specs.Prelude.{ℕ, ◌+◌, ◌-◌, ◌≤◌, Result, Ok, Err}
use Rattle.units.specs.declared.Ended.{Ended}
use Rattle.units.specs.declared.Ended.TheVariants.{Finished, Stopped}

-- no more is spent than was left
abbrev pub Within : Result Ended ℕ → (left : ℕ) → Type 0
Within (Ok (Finished n)) left = n ≤ left
Within (Ok (Stopped n)) left = Unit {0}
Within (Err k) left = Unit {0}

-- how the whole list ends with an allowance of a units, by how its later units end with what is left of it
abbrev pub whole_end : Result Ended ℕ → (left a : ℕ) → Result Ended ℕ
whole_end (Ok (Finished n)) left a = Ok (Finished (a - left + n))
whole_end (Ok (Stopped n)) left a = Ok (Stopped a)
whole_end (Err k) left a = Err k
