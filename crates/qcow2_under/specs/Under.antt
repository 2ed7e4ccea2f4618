-- What lies underneath an image, as lists.
-- Assumes nothing.
use Rattle.std.specs.Prelude.{ℕ, ◌-◌, Bool, List, ◌++◌, length, replicate, if◌then◌else◌}
use Rattle.endian.specs.Big.{part}

-- the n bytes of the run from x on, zeros past its end
unfoldable pub lent_bytes : List ℕ → (x n : ℕ) → List ℕ
lent_bytes backing x n = part backing x n ++ replicate (n - length (part backing x n)) 0

-- the n bytes from x on underneath an image that has a backing file or not
unfoldable pub under_bytes : (backed : Bool) → List ℕ → (x n : ℕ) → List ℕ
under_bytes backed backing x n = if backed then lent_bytes backing x n else replicate n 0
