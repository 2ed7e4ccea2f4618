-- The tests of the header's limits, and what those before them have shown.
-- Assumes nothing.
use Rattle.std.specs.Prelude.{ℕ, ◌*◌, ◌/◌, ◌%◌, ◌^◌, ◌≤◌, Bool, not, ◌||◌, List, ltb, eqb, length}
use Rattle.qcow2_spec.specs.Header.{most_length, most_bits, most_size, most_l1, cluster_bits, cluster_size}
use Rattle.qcow2_spec.specs.declared.Geometry.{Geometry}

-- ---- what the tests passed show
-- 1 to 4
pub record Known (s : List ℕ) : Type 0 where
  pub long : 512 ≤ length s
  pub low : 9 ≤ cluster_bits s
  pub high : cluster_bits s ≤ most_bits

-- 1 to 5
pub record Sized (s : List ℕ) : Type 0 where
  pub known : Known s
  pub short : length s ≤ most_length
  pub room : cluster_size s ≤ length s

-- ---- tests that the definitions leave without a name
-- 5: no whole number of clusters, or too long
unfoldable pub odd_length : List ℕ → Bool
odd_length s = not (eqb (length s % cluster_size s) 0) || ltb most_length (length s)

-- 8, of what the header gives
unfoldable pub oversize : Geometry → Bool
oversize g = ltb most_size g.size || ltb most_l1 g.l1size || ltb (g.l1size * (2 ^ g.bits / 8) * 2 ^ g.bits) g.size
