-- What the check's functions know when they are called, and what they promise each other.
-- Assumes nothing.
use Rattle.std.specs.Prelude.{ℕ, ◌+◌, ◌≤◌, ◌<◌, ◌≡◌, List, length}
use Rattle.choice.specs.Pick.{first}
use Rattle.tally.specs.Tally.{Counting}
use Rattle.qcow2_spec.specs.Check.{short, over}
use Rattle.tally.specs.declared.Counted.{Counted}

-- the first k clusters are judged by their counts and the figures fs
abbrev pub Judging : (s fs : List ℕ) (k : ℕ) → Counted → Type 0
Judging s fs k c = Counting (short s fs) (over s fs) (length fs) k c

-- the same, or the lowest short cluster is found
pub record Judged (s fs : List ℕ) (k : ℕ) (c : Counted) : Type 0 where
  pub none : length fs ≤ c.low → Judging s fs k c
  pub found : c.low < length fs → c.low ≡ first (short s fs) 0 (length fs)

-- of the m counts from cluster base on so many differ from their figures and so many are below: where none is below, those that differ leak
abbrev pub Told : (s fs : List ℕ) (base m unlike under : ℕ) → Type 0
Told s fs base m unlike under =
    under ≡ 0 → (c : Counted) → Judging s fs base c → Judging s fs (base + m) (record { low = c.low; over = c.over + unlike })
