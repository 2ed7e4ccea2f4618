-- A write that lies outside the disk or in two guest clusters.
-- Assumes nothing.
use Rattle.std.specs.Prelude.{ℕ, ◌-◌, ◌%◌, Bool, ◌||◌, ltb}

-- len bytes from x on run past a disk of that size or past their guest cluster of C bytes
unfoldable pub past_write : (size C x len : ℕ) → Bool
past_write size C x len = ltb size x || ltb (size - x) len || ltb (C - x % C) len
