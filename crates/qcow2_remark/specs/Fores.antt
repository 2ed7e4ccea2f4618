-- How far marks are right in tables whose entries may be bad.
-- Assumes nothing.
use Rattle.std.specs.Prelude.{ℕ, ◌+◌, Bool, not, ◌||◌, List, eqb, length, if◌then◌else◌}
use Rattle.qcow2_spec.specs.Header.{cluster_size, per_table}
use Rattle.qcow2_spec.specs.Entries.{place, good_l1, good_l2}
use Rattle.qcow2_spec.specs.References.{l2_entries}
use Rattle.qcow2_spec.specs.Check.{right_mark}
use Rattle.qcow2_groups.specs.Walks.{fore}
use Rattle.qcow2_marks.specs.Marks.{right}
use Rattle.qcow2_portions.specs.Last.{good_marks}

-- an L2 entry is bad, or its mark is right by the bytes of a scratch: `good_marks`, with clusters of C bytes in an image of n
unfoldable pub right_l2 : (version C n : ℕ) → (scratch : List ℕ) → ℕ → Bool
right_l2 v C n scratch e = not (good_l2 v C n e) || right C scratch e

-- how many entries at the front of the table below L1 entry e have no wrong mark, by the figures fs: all where e is bad or has no place, one more than
-- there are where its own mark is wrong
unfoldable pub row_fore : (s fs : List ℕ) → ℕ → ℕ
row_fore s fs e =
    if not (good_l1 (cluster_size s) (length s) e) then per_table s else
    if not (right_mark s fs e) then per_table s + 1 else
    if eqb (place e) 0 then per_table s else
    fore (good_marks s fs).good2 (l2_entries s (place e))
