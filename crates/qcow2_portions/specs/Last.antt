-- What the last portion judges where no bad entry was met: sharing by its own bytes, counts and marks by these and the figures of the scratch.
-- Paper 02, T-12. With the references of its own bytes as figures, and where all entries are good, this is the check's `counts_verdict`.
-- Assumes nothing.
use Rattle.std.specs.Prelude.{ℕ, not, ◌||◌, List, [], ◌∷◌, ltb, length, if◌then◌else◌}
use Rattle.choice.specs.Pick.{first, count as count_that}
use Rattle.qcow2_spec.specs.Header.{version, cluster_size, clusters}
use Rattle.qcow2_spec.specs.Entries.{good_l1, good_l2}
use Rattle.qcow2_spec.specs.References.{l1_entries}
use Rattle.qcow2_spec.specs.Check.{Seek, l1_verdict, right_mark, shared_at, short, over}
use Rattle.qcow2_spec.specs.declared.Verdict.{Verdict}
use Rattle.qcow2_spec.specs.declared.Verdict.TheVariants.{Sound, Leaks, Shared, Short, MarkL1, MarkL2}

-- an L1 entry, or 0 for a bad one: nothing stands below it, and it has no mark
unfoldable pub passed_l1 : List ℕ → ℕ → ℕ
passed_l1 s e = if good_l1 (cluster_size s) (length s) e then e else 0

unfoldable pub passed_all : List ℕ → List ℕ → List ℕ
passed_all s [] = []
passed_all s (e ∷ es) = passed_l1 s e ∷ passed_all s es

-- wrong marks of good entries in the active tables, by the figures fs
unfoldable pub good_marks : List ℕ → List ℕ → Seek
good_marks s fs =
    record {
      good1 = right_mark s fs;
      good2 = λ e. not (good_l2 (version s) (cluster_size s) (length s) e) || right_mark s fs e;
      bad1 = λ i. MarkL1 i;
      bad2 = λ i j. MarkL2 i j;
    }

-- the first of them, a bad entry passed over with all below it; `next` where there is none
unfoldable pub marks_verdict : List ℕ → List ℕ → Verdict → Verdict
marks_verdict s fs next = l1_verdict s (good_marks s fs) 0 (passed_all s (l1_entries s 0)) next

-- shared before short before wrong marks before leaking
unfoldable pub last_verdict : List ℕ → List ℕ → Verdict
last_verdict s fs =
    let N = clusters s in
    let shared = first (shared_at s) 0 N in
    let low = first (short s fs) 0 N in
    let leaks = count_that (over s fs) 0 N in
    if ltb shared N then Shared shared else
    if ltb low N then Short low else
    marks_verdict s fs
    (if ltb 0 leaks then Leaks leaks else
    Sound)
