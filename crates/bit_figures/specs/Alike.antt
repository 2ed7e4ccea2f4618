-- Figures of two bytes that are as bits. Nothing here knows an image format.
-- Assumes nothing.
use Rattle.std.specs.Prelude.{ℕ, ◌+◌, ◌*◌, ◌/◌, ◌%◌, ◌^◌, ◌≤◌, ◌<◌, ◌≡◌, List}
use Rattle.endian.specs.Big.{be16}
use Rattle.widths.specs.Width.{number}

-- figures a to e - 1 are 0 or 1 as their bits
pub record Alike (z b : List ℕ) (a e : ℕ) : Type 0 where
  pub each : (j : ℕ) → a ≤ j → j < e → be16 z (2 * j) ≡ number 1 b j

-- the four figures that four bits make, as one number of eight bytes: the lowest bit is the first figure
abbrev pub four : ℕ → ℕ
four x = x % 2 * 2 ^ 48 + x / 2 % 2 * 2 ^ 32 + x / 4 % 2 * 2 ^ 16 + x / 8 % 2
