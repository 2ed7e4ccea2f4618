-- Numbers of at most 8 bits that are not 0.
-- Assumes nothing.
use Rattle.std.specs.Prelude.{ℕ, ◌-◌, ◌^◌, Bool, not, List, eqb}
use Rattle.choice.specs.Pick.{count}
use Rattle.packed.specs.Packed.{zero_at}
use Rattle.packed.specs.Lanes.{parts}

-- number i of byte x is not 0
abbrev pub full_part : (order x : ℕ) → ℕ → Bool
full_part order x i = not (eqb (parts order x i) 0)

-- how many of its numbers are not 0
unfoldable pub filled_in : (order x : ℕ) → ℕ
filled_in order x = count (full_part order x) 0 (2 ^ (3 - order))

-- how many of its bits are
abbrev pub bit_count : ℕ → ℕ
bit_count x = filled_in 0 x

-- number i of a list is not 0
unfoldable pub filled_at : (order : ℕ) → List ℕ → ℕ → Bool
filled_at order l i = not (zero_at order l i)
