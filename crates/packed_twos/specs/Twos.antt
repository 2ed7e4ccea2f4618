-- Figures of two bytes each, and what a comparison with them counts.
-- Assumes nothing.
use Rattle.std.specs.Prelude.{ℕ, ◌*◌, ◌/◌, ◌≤◌, ◌≡◌, List, length, take}
use Rattle.choice.specs.Pick.{count, each}
use Rattle.endian.specs.Big.{be16}
use Rattle.packed.specs.Packed.{unlike_at, under_at, Lie, Single}

-- the first m numbers of two bytes
unfoldable pub twos : List ℕ → (m : ℕ) → List ℕ
twos l m = each (λ k. be16 l (2 * k)) 0 m

-- how many there are
abbrev pub many : List ℕ → ℕ
many l = length l / 2

-- all of them
abbrev pub figures_in : List ℕ → List ℕ
figures_in l = twos l (many l)

-- what can be compared: numbers that lie there, and few figures
abbrev pub Ready : (order : ℕ) → (l figures : List ℕ) → Type 0
Ready order l figures = Lie order (length l) (many figures) × (many figures ≤ 4096)

-- so many numbers are not the figures, and so many are below them
abbrev pub Tallied : (order : ℕ) → (l figures : List ℕ) → (unlike under : ℕ) → Type 0
Tallied order l figures unlike under =
    (unlike ≡ count (unlike_at order l (twos figures (many figures))) 0 (many figures))
    × (under ≡ count (under_at order l (twos figures (many figures))) 0 (many figures))

-- bytes that begin with the figures, none of which is above 1
abbrev pub Narrow : (figures bytes : List ℕ) → Type 0
Narrow figures bytes = (take (many figures) bytes ≡ twos figures (many figures)) × Single (twos figures (many figures))
