-- What a comparison with figures counts.
-- Assumes nothing.
use Rattle.std.specs.Prelude.{ℕ, ◌*◌, ◌≤◌, ◌≡◌, List, length}
use Rattle.choice.specs.Pick.{count}
use Rattle.packed.specs.Packed.{unlike_at, under_at, Lie, Single}

-- what can be compared: numbers that lie there, few figures, and none above 1
abbrev pub Ready : (order : ℕ) → (l figures : List ℕ) → Type 0
Ready order l figures = (Lie order (length l) (length figures) × (length figures ≤ 32768)) × Single figures

-- so many numbers are not the figures, and so many are below them
abbrev pub Tallied : (order : ℕ) → (l figures : List ℕ) → (unlike under : ℕ) → Type 0
Tallied order l figures unlike under = (unlike ≡ count (unlike_at order l figures) 0 (length figures)) × (under ≡ count (under_at order l figures) 0 (length figures))

-- a group of bytes, and a figure for each number in them
abbrev pub Grouped : (per : ℕ) → (l figures : List ℕ) → Type 0
Grouped per l figures = ((length l ≤ 128) × (length figures ≡ per * length l)) × Single figures
