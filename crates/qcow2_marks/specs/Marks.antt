-- Bit 63 of entries against the figures of a scratch of two bytes for each cluster.
-- Assumes nothing.
use Rattle.std.specs.Prelude.{ℕ, ◌*◌, ◌/◌, ◌%◌, ◌^◌, ◌≤◌, ◌<◌, ◌≡◌, Bool, true, not, ◌&&◌, ◌||◌, List, eqb, length, if◌then◌else◌}
use Rattle.choice.specs.Pick.{all}
use Rattle.endian.specs.Big.{be16, be64}
use Rattle.qcow2_spec.specs.Entries.{place, alone}
use Rattle.qcow2_spec.specs.References.{l2_entries}
use Rattle.qcow2_spec.specs.Check.{Seek, entry_good}
use Rattle.qcow2_refs.specs.Walks.{row_at}

-- bit 63 of entry e is set exactly if the figure of its place is 1 (`right_mark`), with clusters of C bytes
unfoldable pub right : (C : ℕ) → (scratch : List ℕ) → ℕ → Bool
right C scratch e =
    eqb (place e) 0
    || (if eqb (be16 scratch (2 * (place e / C))) 1 then alone e else not (alone e))

-- what every good entry is: bits 1 to 8 and 56 to 62 are clear, and its place is 0 or one of m clusters
pub record Fair (C m e : ℕ) : Type 0 where
  pub low : e % 512 ≤ 1
  pub high : e / 2 ^ 56 % 128 ≡ 0
  pub whole : place e % C ≡ 0
  pub inside : place e / C < m

-- every entry of a table is so
abbrev pub AllFair : (C m : ℕ) → List ℕ → Type 0
AllFair C m t = (k : ℕ) → k < length t / 8 → Fair C m (be64 t (8 * k))

-- the marks of the entries i to j of a table are right
abbrev pub Rights : (C : ℕ) → (scratch t : List ℕ) → (i j : ℕ) → Type 0
Rights C scratch t i j = (k : ℕ) → i ≤ k → k < j → right C scratch (be64 t (8 * k)) ≡ true

-- a search finds nothing in an L1 entry and the entries below it
unfoldable pub unharmed : List ℕ → Seek → ℕ → Bool
unharmed s w e = w.good1 e && (eqb (place e) 0 || all w.good2 (l2_entries s (place e)))

-- nor in the entries before i of L1 table t
abbrev pub UnharmedTo : List ℕ → Seek → (t i : ℕ) → Type 0
UnharmedTo s w t i = (k : ℕ) → k < i → unharmed s w (row_at s t k) ≡ true

-- the first i entries of L1 table t are good with all below them
abbrev pub GoodTo : List ℕ → (t i : ℕ) → Type 0
GoodTo s t i = (k : ℕ) → k < i → entry_good s (row_at s t k) ≡ true
