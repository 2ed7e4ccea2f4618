-- A sweep over the entries of an L2 table: what they refer to is visited in a window, and how many pass at the front.
-- Assumes nothing.
use Rattle.std.specs.Prelude.{◌≡◌, ℕ, ◌*◌, ◌^◌, ◌≤◌, Bool, not, ◌&&◌, List, drop, ◌==◌}
use Rattle.endian.specs.Big.{entries}
use Rattle.window.specs.Window.{bit_kind}
use Rattle.qcow2_spec.specs.Header.{most_bits, most_length}
use Rattle.qcow2_spec.specs.Entries.{common, good_l2}

-- clusters of 2 to the power bits bytes in an image of n bytes
pub record Whole (bits n : ℕ) : Type 0 where
  pub low : 9 ≤ bits
  pub high : bits ≤ most_bits
  pub some : 512 ≤ n
  pub small : n ≤ most_length
  pub clusters : ℕ
  pub fits : n ≡ clusters * 2 ^ bits

-- an L2 entry passes a sweep of some kind: it is good and, where bits are set, no place of it is common
unfoldable pub passes_by : (kind version C n e : ℕ) → Bool
passes_by kind v C n e = good_l2 v C n e && not (kind == bit_kind && common e)

-- 64 entries of a table from index i on
abbrev pub group : List ℕ → ℕ → List ℕ
group t i = entries 64 (drop (8 * i) t)
