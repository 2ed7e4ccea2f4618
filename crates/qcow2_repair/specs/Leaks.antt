-- What a repair is told, and its units.
-- Assumes nothing.
use Rattle.std.specs.Prelude.{ℕ, zero, suc, ◌+◌, ◌*◌, ◌^◌, ◌≤◌, ◌<◌, ◌≡◌, ◌⊎◌, List, [], ◌++◌, length, get_or, take}
use Rattle.units.specs.Units.{UnitStore}
use Rattle.tally.specs.Tally.{wide}
use Rattle.qcow2_spec.specs.Header.{most_bits, most_length, most_order, width, clusters, blocks, table_at}
use Rattle.qcow2_spec.specs.Counts.{count_at, count_of}
use Rattle.qcow2_spec.specs.References.{figures_of}
use Rattle.qcow2_spec.specs.Check.{repair_units}
use Rattle.qcow2_spec.specs.Opened.{Opened}
use Rattle.qcow2_spec.specs.declared.Geometry.{Geometry}
use Rattle.qcow2_counts.specs.Blocks.{Reach, count_place, table_place}
use Rattle.qcow2_setcount.specs.Fixed.{fix}

-- the counts lie apart from each other, from the refcount table and, as that does, from the header, as they do in an image that is not damaged
pub record Apart (s : List ℕ) : Type 0 where
  pub counts : (j k : ℕ) → j < k → k < clusters s → (count_at s j + width s ≤ count_at s k) ⊎ (count_at s k + width s ≤ count_at s j)
  pub table : (j b : ℕ) → j < clusters s → b < blocks s → (count_at s j + width s ≤ 8 * (table_at s + 8 * b)) ⊎ (8 * (table_at s + 8 * b + 8) ≤ count_at s j)
  pub past : (k : ℕ) → k < clusters s → 8 * 512 ≤ count_at s k
  pub table-past : 512 ≤ table_at s

-- the scratch begins with the figures, two bytes each
abbrev pub Figured : (s refs : List ℕ) → Type 0
Figured s refs = take (2 * clusters s) refs ≡ wide (figures_of s)

-- a leaking image: there is a count to set, and none is below its figure
pub record Leaking (g : Geometry) (s refs : List ℕ) : Type 0 where
  pub opened : Opened g s
  pub apart : Apart s
  pub figures : Figured s refs
  pub some : 0 < length (repair_units s (figures_of s) 0 (clusters s))
  pub covered : (k : ℕ) → k < clusters s → get_or (figures_of s) k 0 ≤ count_of s k

-- what setting the counts needs of an image: by its refcount table they lie in it, apart from each other and from that table
pub record Laid (g : Geometry) (s : List ℕ) : Type 0 where
  pub few : g.clusters ≤ most_length
  pub low : most_order ≤ g.bits
  pub high : g.bits ≤ most_bits
  pub narrow : g.order ≤ most_order
  pub reach : (k : ℕ) → k < g.clusters → Reach g s k
  pub counts : (j k : ℕ) → j < k → k < g.clusters → (count_place g s j + 2 ^ g.order ≤ count_place g s k) ⊎ (count_place g s k + 2 ^ g.order ≤ count_place g s j)
  pub table : (j k : ℕ) → j < g.clusters → k < g.clusters → (count_place g s j + 2 ^ g.order ≤ 8 * table_place g k) ⊎ (8 * (table_place g k + 8) ≤ count_place g s j)

-- the units of the first k clusters' counts, by the refcount table, that are to be fs
unfoldable pub mend_units : Geometry → (s fs : List ℕ) → ℕ → List UnitStore
mend_units g s fs zero = []
mend_units g s fs (suc k) = mend_units g s fs k ++ fix g.order s (count_place g s k) (get_or fs k 0)
