-- A walk over tables: how many entries pass at the front, and where the first is that does not.
-- Assumes nothing.
use Rattle.std.specs.Prelude.{ℕ, ◌+◌, ◌*◌, ◌≤◌, ◌<◌, ◌≡◌, Bool, true, false, not, ◌&&◌, ◌||◌, List, eqb, ltb, length, if◌then◌else◌}
use Rattle.choice.specs.Pick.{all}
use Rattle.endian.specs.Big.{be64, part}
use Rattle.qcow2_spec.specs.Header.{version, cluster_size, per_table, root_at}
use Rattle.qcow2_spec.specs.Entries.{place, common, good_l1}
use Rattle.qcow2_spec.specs.References.{l2_entries}
use Rattle.qcow2_refs.specs.declared.Progress.{Progress}
use Rattle.qcow2_groups.specs.Walks.{fore, passes}

-- an L1 entry passes a walk of some kind: it is good and, where references are counted alone (kind 0), no place of it is common
unfoldable pub passes_l1 : (kind C n e : ℕ) → Bool
passes_l1 kind C n e = good_l1 C n e && not (eqb kind 0 && common e)

-- how many entries of the L2 table at p pass at its front
unfoldable pub table_front : (kind : ℕ) → List ℕ → ℕ → ℕ
table_front kind s p = fore (passes kind (version s) (cluster_size s) (length s)) (l2_entries s p)

-- the same below an L1 entry: none where it does not pass, all where there is no table
unfoldable pub row_front : (kind : ℕ) → List ℕ → ℕ → ℕ
row_front kind s e =
    if not (passes_l1 kind (cluster_size s) (length s) e) then 0 else
    if eqb (place e) 0 then per_table s else
    table_front kind s (place e)

-- a walk over an L1 table once an entry more is passed, of which k entries below pass at the front
unfoldable pub walked : (per : ℕ) → Progress → ℕ → Progress
walked per w k =
    if ltb w.good w.row then record { row = w.row + 1; good = w.good; below = w.below } else
    record { row = w.row + 1; good = if eqb w.good w.row && eqb k per then w.row + 1 else w.good; below = k }

-- entry i of L1 table t
unfoldable pub row_at : List ℕ → (t i : ℕ) → ℕ
row_at s t i = be64 s (root_at s t + 8 * i)

-- entry j of the L2 table below entry i of L1 table t
unfoldable pub below_at : List ℕ → (t i j : ℕ) → ℕ
below_at s t i j = be64 (part s (place (row_at s t i)) (cluster_size s)) (8 * j)

-- an L1 entry passes with all entries below it
unfoldable pub entry_passes : (kind : ℕ) → List ℕ → ℕ → Bool
entry_passes kind s e =
    passes_l1 kind (cluster_size s) (length s) e
    && (eqb (place e) 0 || all (passes kind (version s) (cluster_size s) (length s)) (l2_entries s (place e)))

-- the entries before i of L1 table t pass with all entries below them
abbrev pub PassTo : (kind : ℕ) → List ℕ → (t i : ℕ) → Type 0
PassTo kind s t i = (k : ℕ) → k < i → entry_passes kind s (row_at s t k) ≡ true

-- the first j entries of the table below entry i of L1 table t pass
abbrev pub ClearTo : (kind : ℕ) → List ℕ → (t i j : ℕ) → Type 0
ClearTo kind s t i j = (k : ℕ) → k < j → passes kind (version s) (cluster_size s) (length s) (below_at s t i k) ≡ true

-- of the first `row` entries of L1 table t `good` at the front pass with all below them; the next one, where there is one, does not, and
-- `below` entries at the front of its table do
pub record Found (kind : ℕ) (s : List ℕ) (t row good below : ℕ) : Type 0 where
  pub few : good ≤ row
  pub front : PassTo kind s t good
  pub bad : good < row → (entry_passes kind s (row_at s t good) ≡ false) × ClearTo kind s t good below
