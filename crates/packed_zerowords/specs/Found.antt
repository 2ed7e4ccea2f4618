-- A test of many numbers.
-- Assumes nothing.
use Rattle.std.specs.Prelude.{ℕ, Bool, ltb}
use Rattle.choice.specs.Pick.{first}

-- one of the first n numbers passes the test
abbrev pub some : (ℕ → Bool) → ℕ → Bool
some p n = ltb (first p 0 n) n
