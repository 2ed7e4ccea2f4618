-- Counts that do not rise.
-- Assumes nothing.
use Rattle.std.specs.Prelude.{ℕ, ◌^◌, ◌≤◌, List, [], ◌∷◌}
use Rattle.widths.specs.Width.{number}
use Rattle.units.specs.Units.{UnitStore, byte, entry, count}
use Rattle.units.specs.Plan.{Plan, refused, units}
use Rattle.qcow2_jobs.specs.declared.releasing.Freed.{Freed}
use Rattle.qcow2_jobs.specs.declared.releasing.Freed.TheVariants.{Entry, Both}

-- those of a list on the image s
abbrev pub AllFall : List ℕ → List UnitStore → Type 0
AllFall s [] = Unit {0}
AllFall s (byte a v ∷ us) = AllFall s us
AllFall s (entry a v ∷ us) = AllFall s us
AllFall s (count w a v ∷ us) = (v ≤ number w s a) × AllFall s us

abbrev pub PlanFalls : List ℕ → Plan → Type 0
PlanFalls s (refused k) = Unit {0}
PlanFalls s (units us) = AllFall s us

-- that of a discard
abbrev pub Falls : List ℕ → Freed → Type 0
Falls s (Entry a x) = Unit {0}
Falls s (Both a x r k v) = v ≤ number (2 ^ r) s k
