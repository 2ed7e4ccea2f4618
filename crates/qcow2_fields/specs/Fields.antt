-- What is asked of the header's fields, and what they give.
-- Assumes nothing.
use Rattle.std.specs.Prelude.{ℕ, ◌^◌, ◌≤◌, ◌<◌, ◌≡◌, Bool, not, ◌&&◌, ◌||◌, List, ltb, eqb, length}
use Rattle.qcow2_spec.specs.Header.{most_bits, most_length, most_order, version, refcount_order, count_order, header_length, incompatible}
use Rattle.qcow2_spec.specs.Opened.{geometry}
use Rattle.qcow2_spec.specs.declared.Geometry.{Geometry}
use Rattle.qcow2_limits.specs.Limits.{Sized}

-- ---- tests that the definitions leave without a name
-- part of 6: counts that are too wide, or another header
unfoldable pub other_form : List ℕ → Bool
other_form s = eqb (version s) 3 && (ltb most_order (refcount_order s) || not (eqb (header_length s) 104))

-- 7: an incompatible feature
unfoldable pub features : List ℕ → Bool
features s = eqb (version s) 3 && not (eqb (incompatible s) 0)

-- ---- what the tests passed show
-- 1 to 6
pub record Supported (s : List ℕ) : Type 0 where
  pub sized : Sized s
  pub narrow : count_order s ≤ most_order

-- 1 to 7, with what the header gives
pub record Read (g : Geometry) (s : List ℕ) : Type 0 where
  pub is : g ≡ geometry s 0
  pub low : 9 ≤ g.bits
  pub high : g.bits ≤ most_bits
  pub long : 512 ≤ length s
  pub short : length s ≤ most_length
  pub room : 2 ^ g.bits ≤ length s
  pub few : g.l1size < 4294967296
  pub brief : g.tableclusters < 4294967296
