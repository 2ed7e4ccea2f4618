-- Rows that are put one after the other into lent numbers, as many as there is room for.
-- Assumes nothing.
use Rattle.std.specs.Prelude.{ℕ, ◌*◌, ◌≡◌, List, ◌++◌, length}
use Rattle.qcow2_spec.specs.Steps.{rows_put}

-- k rows, those of the list xs, are put in front of the numbers `out`, as far as there is room
pub record Put (out xs rows : List ℕ) (k : ℕ) : Type 0 where
  pub put : rows ≡ rows_put out xs
  pub many : length xs ≡ 4 * k

-- whatever rows were put before, these come after them
abbrev pub Puts : (new before : List ℕ) (k : ℕ) (after : List ℕ) (r : ℕ) → Type 0
Puts new before k after r = (out xs : List ℕ) → Put out xs before k → Put out (xs ++ new) after r
