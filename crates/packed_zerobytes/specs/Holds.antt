-- Numbers of a byte against 0.
-- Assumes nothing.
use Rattle.std.specs.Prelude.{ℕ, ◌-◌, ◌^◌, Bool, eqb}
use Rattle.packed.specs.Lanes.{parts}
use Rattle.packed_zerowords.specs.Found.{some}

-- how many numbers of 2 ^ order bits a byte has
abbrev pub per : ℕ → ℕ
per order = 2 ^ (3 - order)

-- number i of byte x is 0
abbrev pub zero_in : (order x : ℕ) → ℕ → Bool
zero_in order x i = eqb (parts order x i) 0

-- one of its numbers is
unfoldable pub holds : (order x : ℕ) → Bool
holds order x = some (zero_in order x) (per order)
