-- The units of counts that are set.
-- Assumes nothing.
use Rattle.std.specs.Prelude.{ℕ, zero, suc, ◌+◌, ◌*◌, ◌^◌, List, [], ◌∷◌, ◌++◌, eqb, get_or, if◌then◌else◌}
use Rattle.widths.specs.Width.{number}
use Rattle.units.specs.Units.{UnitStore, count}

-- the unit of the count of 2 ^ o bits at a place that is to be v: none where it is
unfoldable pub fix : (o : ℕ) → List ℕ → (at v : ℕ) → List UnitStore
fix o s at v = if eqb (number (2 ^ o) s at) v then [] else count (2 ^ o) at v ∷ []

-- the units of the first k counts from a place on that are to be fs
unfoldable pub fixes : (o : ℕ) (s : List ℕ) (at : ℕ) (fs : List ℕ) → ℕ → List UnitStore
fixes o s at fs zero = []
fixes o s at fs (suc k) = fixes o s at fs k ++ fix o s (at + 2 ^ o * k) (get_or fs k 0)
