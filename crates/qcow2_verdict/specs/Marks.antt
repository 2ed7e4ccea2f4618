-- What the check knows of entries and marks when it looks at the counts.
-- Assumes nothing.
use Rattle.std.specs.Prelude.{ℕ, ◌<◌, ◌≡◌, true, List}
use Rattle.qcow2_spec.specs.Header.{root_size}
use Rattle.qcow2_spec.specs.References.{l1_entries}
use Rattle.qcow2_spec.specs.Check.{entry_good, l1_verdict, wrong_marks}
use Rattle.qcow2_spec.specs.declared.Verdict.TheVariants.{Sound}
use Rattle.qcow2_refs.specs.Walks.{row_at}

-- every active entry is good, with all entries below it
abbrev pub AllGood : List ℕ → Type 0
AllGood s = (i : ℕ) → i < root_size s 0 → entry_good s (row_at s 0 i) ≡ true

-- with the figures fs every mark is right
abbrev pub OwnMarks : (s fs : List ℕ) → Type 0
OwnMarks s fs = l1_verdict s (wrong_marks s fs) 0 (l1_entries s 0) Sound ≡ Sound
