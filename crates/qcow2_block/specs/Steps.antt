-- How far the counts of a block are judged.
-- Assumes nothing.
use Rattle.std.specs.Prelude.{ℕ, ◌+◌, ◌-◌, ◌*◌, ◌/◌, ◌%◌, ◌^◌, ◌≤◌, ◌<◌, ◌≡◌, List}
use Rattle.tally.specs.declared.Counted.{Counted}
use Rattle.qcow2_counts.specs.Blocks.{Packed}
use Rattle.qcow2_block.specs.declared.Judge.{Judge}

-- of the m clusters from base on some are judged: the counts of the others stand from byte `at` on, and at most `step` of them are compared at once
pub record Goes (order : ℕ) (s : List ℕ) (base m : ℕ) (w : Judge) : Type 0 where
  pub few : w.done ≤ m
  pub stands : w.done < m → Packed order s (base + w.done) (m - w.done) (8 * w.at)
  pub most : w.step ≤ 4096
  pub least : 64 ≤ w.step
  pub eights : w.step % 8 ≡ 0

-- k clusters more are judged
unfoldable pub judged_on : (order : ℕ) (w : Judge) (c : Counted) (k : ℕ) → Judge
judged_on order w c k = record { counted = c; done = w.done + k; at = w.at + 2 ^ order * (k / 8); step = w.step }

-- what is left of m clusters, first by their number and then by how many are compared at once
abbrev pub ahead : (m : ℕ) → Judge → ℕ
ahead m w = 4096 * (m - w.done) + w.step
