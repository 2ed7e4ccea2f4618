-- What is asked of the backing file, and what is shown of its name.
-- Assumes nothing.
use Rattle.std.specs.Prelude.{ℕ, Bool, not, ◌&&◌, ◌||◌, List, if◌then◌else◌}
use Rattle.qcow2_spec.specs.Header.{backed, bad_name, name_length}

-- 19, which the definitions leave without a name: a bad name, or no bytes lent
unfoldable pub bad_backing : (lent : Bool) → List ℕ → Bool
bad_backing lent s = backed s && (bad_name s || not lent)

-- the bytes of the name, none without a backing file
unfoldable pub shown_length : List ℕ → ℕ
shown_length s = if backed s then name_length s else 0
