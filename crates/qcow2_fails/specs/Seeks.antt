-- What a search over an L1 table looks for.
-- Assumes nothing.
use Rattle.std.specs.Prelude.{ℕ, ◌*◌, ◌<◌, ◌≡◌, Bool, true, false, List, eqb, length, if◌then◌else◌}
use Rattle.qcow2_spec.specs.Header.{per_table}
use Rattle.qcow2_spec.specs.Entries.{place}
use Rattle.qcow2_spec.specs.Check.{Seek, bad_in, wrong_marks}
use Rattle.qcow2_refs.specs.Walks.{row_at, below_at}
use Rattle.qcow2_marks.specs.Marks.{GoodTo}

-- wrong marks by the figures fs, or bad entries of L1 table t
abbrev pub seek_of : (marks : Bool) → (s fs : List ℕ) → (t : ℕ) → Seek
seek_of true s fs t = wrong_marks s fs
seek_of false s fs t = bad_in s t

-- how many L2 entries stand below entry i of L1 table t
unfoldable pub below_count : List ℕ → (t i : ℕ) → ℕ
below_count s t i = if eqb (place (row_at s t i)) 0 then 0 else per_table s

-- a search finds nothing in the first j of them
abbrev pub BelowTo : List ℕ → Seek → (t i j : ℕ) → Type 0
BelowTo s w t i j = (k : ℕ) → k < j → w.good2 (below_at s t i k) ≡ true

-- where marks are looked at, there is a figure for each of m clusters, and the first rows of L1 table t are good
abbrev pub Marked : (marks : Bool) → (s scratch : List ℕ) → (t m rows : ℕ) → Type 0
Marked marks s scratch t m rows = marks ≡ true → (length scratch ≡ 2 * m) × GoodTo s t rows
