-- Counts of 0 in a refcount block.
-- Assumes nothing.
use Rattle.std.specs.Prelude.{ℕ, ◌+◌, ◌*◌, Bool, List, eqb}
use Rattle.widths.specs.Width.{number}
use Rattle.qcow2_spec.specs.Header.{width, block_at}

-- count k of refcount block b is 0
unfoldable pub zero_in : List ℕ → (b k : ℕ) → Bool
zero_in s b k = eqb (number (width s) s (8 * block_at s b + width s * k)) 0
