-- What every image of the series has in common: of the bytes s, old of which are the earlier image, only the autoclear field, the table's entries for
-- new blocks and the new blocks themselves have changed, and an entry names a block only once that is filled. Assumes nothing.
use Prim.Native.Nat.{ℕ, ◌+◌, ◌*◌, ◌≤◌, ◌<◌}
use mathlib.Core.Path.{◌≡◌}
use mathlib.Core.Logic.{◌⊎◌}
use mathlib.Core.List.{List}
use lib.ListN.{length, get_or}
use Rattle.endian.specs.Big.{be64}
use Rattle.units.specs.Units.{apply_all}
use Rattle.qcow2_spec.specs.Header.{cluster_size, per_block, blocks, table_at}
use Rattle.qcow2_spec.specs.Store.{clear_units}
use Rattle.qcow2_spec.specs.Series.{Bytes}
use Rattle.qcow2_longer.specs.Extend.{old_blocks, new_place, new_block}

-- where the table's entry for block i stands
abbrev pub slot : List ℕ → ℕ → ℕ
slot s i = table_at s + 8 * i

-- block i is new
abbrev pub New : List ℕ → (old i : ℕ) → Type 0
New s old i = (old_blocks s old ≤ i) × (i < blocks s)

-- where things lie: the table in the earlier bytes, past the header; the new blocks past the earlier bytes, in the image
pub record Room (s : List ℕ) (old : ℕ) : Type 0 where
  pub head : 512 ≤ cluster_size s
  pub counts : 0 < per_block s
  pub some : 1 ≤ old_blocks s old
  pub fewer : old_blocks s old ≤ blocks s
  pub long : old ≤ length s
  pub past : cluster_size s ≤ table_at s
  pub table_in : (i : ℕ) → i < blocks s → slot s i + 8 ≤ old
  pub place-past : (i : ℕ) → New s old i → old ≤ new_place s i
  pub place_in : (i : ℕ) → New s old i → new_place s i + cluster_size s ≤ length s
  pub place-small : (i : ℕ) → New s old i → new_place s i < 256 * 256 * 256 * 256

-- byte x is none of those that extending stores
pub record Apart (s : List ℕ) (old x : ℕ) : Type 0 where
  pub field : (x < 88) ⊎ (96 ≤ x)
  pub slots : (i : ℕ) → New s old i → (x < slot s i) ⊎ (slot s i + 8 ≤ x)
  pub fills : (i : ℕ) → New s old i → (x < new_place s i) ⊎ (new_place s i + cluster_size s ≤ x)

-- new block i is there: its entry names its place, and it is filled
pub record Made (s t : List ℕ) (i : ℕ) : Type 0 where
  pub named : be64 t (slot s i) ≡ new_place s i
  pub filled : (x : ℕ) → x < cluster_size s → get_or t (new_place s i + x) 0 ≡ get_or (new_block s) x 0

-- t is an image of the series that begins with s
pub record Between (s : List ℕ) (old : ℕ) (t : List ℕ) : Type 0 where
  pub len : length t ≡ length s
  pub small : Bytes t
  pub same : (x : ℕ) → Apart s old x → get_or t x 0 ≡ get_or s x 0
  -- nothing is stored yet, or the autoclear field is as the clearing unit leaves it
  pub started : (t ≡ s) ⊎ ((x : ℕ) → 88 ≤ x → x < 96 → get_or t x 0 ≡ get_or (apply_all (clear_units s) s) x 0)
  pub each : (i : ℕ) → New s old i → (be64 t (slot s i) ≡ 0) ⊎ Made s t i

-- no block is left to make
abbrev pub AllMade : (s : List ℕ) (old : ℕ) (t : List ℕ) → Type 0
AllMade s old t = (i : ℕ) → New s old i → Made s t i

-- one is
abbrev pub SomeLeft : (s : List ℕ) (old : ℕ) (t : List ℕ) → Type 0
SomeLeft s old t = (i : ℕ) × New s old i × (be64 t (slot s i) ≡ 0)
