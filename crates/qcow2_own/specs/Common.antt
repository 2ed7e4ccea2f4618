-- An L1 entry that others may refer to.
-- Assumes nothing.
use Rattle.std.specs.Prelude.{ℕ, Bool, ◌&&◌, List, length}
use Rattle.qcow2_spec.specs.Header.{cluster_size}
use Rattle.qcow2_spec.specs.Entries.{good_l1, common}
use Rattle.qcow2_spec.specs.Guest.{l1_entry}

-- guest cluster g's L1 entry in the active table is good and has a place that others may refer to
unfoldable pub common_row : List ℕ → ℕ → Bool
common_row s g = good_l1 (cluster_size s) (length s) (l1_entry s 0 g) && common (l1_entry s 0 g)
