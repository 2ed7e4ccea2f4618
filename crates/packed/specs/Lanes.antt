-- Bytes side by side in one number, and numbers side by side in one byte.
-- Assumes nothing.
use Rattle.std.specs.Prelude.{ℕ, zero, suc, ◌+◌, ◌*◌, ◌^◌, List, get_or}
use Rattle.widths.specs.Width.{field}

-- k bytes in one number, the first lowest
unfoldable pub lanes : (k : ℕ) → (ℕ → ℕ) → ℕ
lanes zero d = 0
lanes (suc k) d = d 0 + 256 * lanes k (λ i. d (suc i))

-- the bytes of a list from an index on
abbrev pub bytes_at : List ℕ → (at : ℕ) → ℕ → ℕ
bytes_at l at i = get_or l (at + i) 0

-- the numbers of 2 ^ order bits in a byte
unfoldable pub parts : (order x : ℕ) → ℕ → ℕ
parts order x i = field (2 ^ order) (2 ^ order * i) x
