-- Refcount blocks: how one is found, and the counts in it.
-- Assumes nothing.
use Rattle.std.specs.Prelude.{ℕ, ◌+◌, ◌-◌, ◌*◌, ◌/◌, ◌%◌, ◌^◌, ◌≤◌, ◌<◌, ◌≡◌, List, length}
use Rattle.endian.specs.Big.{be64}
use Rattle.widths.specs.Width.{number}
use Rattle.qcow2_spec.specs.Header.{most_bits, most_length, most_order}
use Rattle.qcow2_spec.specs.Counts.{count_of}
use Rattle.qcow2_spec.specs.declared.Geometry.{Geometry}

-- the refcount table of s names block b, which lies in the image
pub record Named (g : Geometry) (s : List ℕ) (b : ℕ) : Type 0 where
  pub entered : g.tableat + 8 * b + 8 ≤ length s
  pub short : length s ≤ most_length
  pub inside : be64 s (g.tableat + 8 * b) + 2 ^ g.bits ≤ length s

-- the counts of a block
abbrev pub per_of : Geometry → ℕ
per_of g = 2 ^ (g.bits + 3 - g.order)

-- the place of the refcount table's entry for cluster k's block
abbrev pub table_place : Geometry → ℕ → ℕ
table_place g k = g.tableat + 8 * (k / per_of g)

-- the place of cluster k's count, by the refcount table of s: its lowest bit's
abbrev pub count_place : Geometry → List ℕ → ℕ → ℕ
count_place g s k = 8 * be64 s (table_place g k) + 2 ^ g.order * (k % per_of g)

-- it can be found
pub record Reach (g : Geometry) (s : List ℕ) (k : ℕ) : Type 0 where
  pub low : most_order ≤ g.bits
  pub high : g.bits ≤ most_bits
  pub narrow : g.order ≤ most_order
  pub named : Named g s (k / per_of g)
  pub whole : 8 * be64 s (table_place g k) % 2 ^ g.order ≡ 0

-- m counts of 2 ^ order bits from bit `at` on lie in n bytes
pub record Row (order n at m : ℕ) : Type 0 where
  pub few : order ≤ most_order
  pub aligned : at % 2 ^ order ≡ 0
  pub fits : at + 2 ^ order * m ≤ 8 * n

-- the counts of the m clusters from base on, of 2 ^ order bits, stand from a bit on
pub record Packed (order : ℕ) (s : List ℕ) (base m at : ℕ) : Type 0 where
  pub narrow : order ≤ most_order
  pub short : length s ≤ most_length
  pub aligned : at % 2 ^ order ≡ 0
  pub inside : at + 2 ^ order * m ≤ 8 * length s
  pub stands : (j : ℕ) → j < m → count_of s (base + j) ≡ number (2 ^ order) s (at + 2 ^ order * j)
