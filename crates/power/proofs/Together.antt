-- Bits put together are no fewer. Assumes nothing.
use Prim.Native.Nat.{ℕ, ◌/◌, ◌%◌, ◌≤◌}
use native.Mathlib.Omega.{arith}
use lib.Bits.{bit_or, or_add_and, and_le_l, and_le_r, or_shr, or_mod}

or_most : (x y : ℕ) → (x ≤ bit_or x y) × (y ≤ bit_or x y)
or_most x y = (omega (arith, or_add_and x y, and_le_r x y), omega (arith, or_add_and x y, and_le_l x y))

-- byte by byte
pub or_high : (x y : ℕ) → (x % 256 ≤ bit_or x y % 256) × (y % 256 ≤ bit_or x y % 256)
or_high x y = rw (or_mod x y 8) (or_most (x % 256) (y % 256))

pub or_low : (x y : ℕ) → (x / 256 ≤ bit_or x y / 256) × (y / 256 ≤ bit_or x y / 256)
or_low x y = rw (or_shr x y 8) (or_most (x / 256) (y / 256))
