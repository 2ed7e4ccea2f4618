-- All L1 tables with the fixed places: what a walk leaves, and what it says of the entries.
-- Assumes nothing.
use Rattle.std.specs.Prelude.{ℕ, ◌*◌, ◌<◌, ◌≡◌, true, List, length, replicate}
use Rattle.tally.specs.States.{fixed_kind, visit_all}
use Rattle.qcow2_spec.specs.Header.{version, cluster_size, clusters, roots, root_size}
use Rattle.qcow2_spec.specs.Entries.{good_l2}
use Rattle.qcow2_spec.specs.References.{fixed_refs}
use Rattle.qcow2_spec.specs.Check.{entry_good}
use Rattle.qcow2_refs.specs.Walks.{row_at, below_at}
use Rattle.qcow2_trees.specs.Walks.{roots_visited}

-- a cleared scratch once the fixed places and all L1 tables are walked with states
unfoldable pub states_of : List ℕ → List ℕ
states_of s = roots_visited true s 0 (roots s) (visit_all fixed_kind (fixed_refs s) (replicate (2 * clusters s) 0))

-- every entry before a spot is good
pub record Ahead (s : List ℕ) (root row below : ℕ) : Type 0 where
  pub whole : (t : ℕ) → t < root → (i : ℕ) → i < root_size s t → entry_good s (row_at s t i) ≡ true
  pub rows : (i : ℕ) → i < row → entry_good s (row_at s root i) ≡ true
  pub clear : (j : ℕ) → j < below → good_l2 (version s) (cluster_size s) (length s) (below_at s root row j) ≡ true
