-- Little-endian numbers in a list of bytes.
-- Assumes nothing.
use Rattle.std.specs.Prelude.{ℕ, zero, suc, ◌+◌, ◌*◌, ◌/◌, ◌%◌, List, [], ◌∷◌, get_or}

-- the number of k bytes at an index, the lowest byte first
unfoldable pub le : (k : ℕ) → List ℕ → ℕ → ℕ
le zero l at = 0
le (suc k) l at = get_or l at 0 + 256 * le k l (at + 1)

-- the number of 32 or 64 bits at an index
unfoldable pub le32 : List ℕ → ℕ → ℕ
le32 l at = le 4 l at

unfoldable pub le64 : List ℕ → ℕ → ℕ
le64 l at = le 8 l at

-- the lowest k bytes of a number, the lowest first
unfoldable pub little : (k : ℕ) → ℕ → List ℕ
little zero x = []
little (suc k) x = x % 256 ∷ little k (x / 256)
