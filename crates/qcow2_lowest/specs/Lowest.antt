-- The lowest shared cluster, looked for window by window.
-- Assumes nothing.
use Rattle.std.specs.Prelude.{ℕ, ◌≤◌, ◌<◌, ◌≡◌, true, false, List}
use Rattle.qcow2_spec.specs.Header.{clusters}
use Rattle.qcow2_spec.specs.Check.{shared_at}

-- none of the clusters before b is shared
abbrev pub Clear : List ℕ → ℕ → Type 0
Clear s b = (k : ℕ) → k < b → shared_at s k ≡ false

-- r is the lowest shared one of the clusters from b up to e, or the number of clusters where none of these is
pub record LowestIn (s : List ℕ) (b e r : ℕ) : Type 0 where
  pub most : r ≤ clusters s
  pub some : r < clusters s → (b ≤ r) × (r < e) × (shared_at s r ≡ true)
  pub least : (k : ℕ) → b ≤ k → k < e → shared_at s k ≡ true → r ≤ k
