-- What a search over all L1 tables knows.
-- Assumes nothing.
use Rattle.std.specs.Prelude.{ℕ, ◌≤◌, ◌<◌, ◌≡◌, Bool, true, false, List, length}
use Rattle.qcow2_spec.specs.Header.{version, cluster_size, roots, root_size}
use Rattle.qcow2_spec.specs.Entries.{good_l2}
use Rattle.qcow2_spec.specs.declared.Verdict.{Verdict}
use Rattle.qcow2_spec.specs.declared.Verdict.TheVariants.{Sound, Leaks, BadL1, BadL2, Shared, Short, MarkL1, MarkL2, Refused}
use Rattle.qcow2_refs.specs.Walks.{below_at}
use Rattle.qcow2_marks.specs.Marks.{GoodTo}

-- the entries before i of L1 table t are good with all below them, and so are the first j below entry i
pub record Spot (s : List ℕ) (t i j : ℕ) : Type 0 where
  pub few : i ≤ root_size s t
  pub rows : GoodTo s t i
  pub below : (k : ℕ) → k < j → good_l2 (version s) (cluster_size s) (length s) (below_at s t i k) ≡ true

-- the L1 tables before t are good too
pub record Before (s : List ℕ) (t i j : ℕ) : Type 0 where
  pub few : t ≤ roots s
  pub tables : (u : ℕ) → u < t → GoodTo s u (root_size s u)
  pub spot : t < roots s → Spot s t i j

-- nothing is wrong
abbrev pub sound : Verdict → Bool
sound Sound = true
sound (Leaks m) = false
sound (BadL1 t i) = false
sound (BadL2 t i j) = false
sound (Shared k) = false
sound (Short k) = false
sound (MarkL1 i) = false
sound (MarkL2 i j) = false
sound (Refused k) = false
