-- Numbers of one width that stand side by side from a list's first bit on, against 0 and against figures.
-- Assumes nothing.
use Rattle.std.specs.Prelude.{ℕ, ◌*◌, ◌^◌, ◌≤◌, Bool, not, List, eqb, ltb, get_or}
use Rattle.widths.specs.Width.{number}

-- number i of 2 ^ order bits
unfoldable pub packed : (order : ℕ) → List ℕ → ℕ → ℕ
packed order l i = number (2 ^ order) l (2 ^ order * i)

-- it is 0
unfoldable pub zero_at : (order : ℕ) → List ℕ → ℕ → Bool
zero_at order l i = eqb (packed order l i) 0

-- it is not figure i
unfoldable pub unlike_at : (order : ℕ) → (l figures : List ℕ) → ℕ → Bool
unlike_at order l figures i = not (eqb (packed order l i) (get_or figures i 0))

-- it is below figure i
unfoldable pub under_at : (order : ℕ) → (l figures : List ℕ) → ℕ → Bool
under_at order l figures i = ltb (packed order l i) (get_or figures i 0)

-- m numbers of 2 ^ order bits lie in n bytes
pub record Lie (order n m : ℕ) : Type 0 where
  pub few : order ≤ 6
  pub short : n ≤ 4294967296
  pub fits : 2 ^ order * m ≤ 8 * n

-- no figure is above 1
abbrev pub Single : List ℕ → Type 0
Single figures = (i : ℕ) → get_or figures i 0 ≤ 1
