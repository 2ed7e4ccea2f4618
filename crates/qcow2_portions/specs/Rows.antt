-- The L1 entries of all tables in the order in which a check takes them, and what taking them does. Paper 02, T-12.
-- Assumes nothing.
use Rattle.std.specs.Prelude.{ℕ, zero, suc, ◌-◌, ◌*◌, List, [], ◌∷◌, ◌++◌, ltb, drop, replicate, if◌then◌else◌}
use Rattle.tally.specs.Tally.{bump_all_wide}
use Rattle.qcow2_spec.specs.Header.{clusters, roots}
use Rattle.qcow2_spec.specs.References.{l1_entries, l1_refs, fixed_refs}
use Rattle.qcow2_spec.specs.Check.{or_else, entry_verdict, bad_in}
use Rattle.qcow2_spec.specs.declared.Verdict.{Verdict}
use Rattle.qcow2_spec.specs.declared.Verdict.TheVariants.{Sound}

-- an L1 entry, which is entry `row` of L1 table `root`
pub record Row : Type 0 where
  pub root : ℕ
  pub row : ℕ
  pub entry : ℕ

-- the entries es of L1 table t, the first of which has index i
unfoldable pub rows_of : (t i : ℕ) → List ℕ → List Row
rows_of t i [] = []
rows_of t i (e ∷ es) = record { root = t; row = i; entry = e } ∷ rows_of t (suc i) es

-- the entries of the k L1 tables from t on, table by table
unfoldable pub tables_rows : List ℕ → (t k : ℕ) → List Row
tables_rows s t zero = []
tables_rows s t (suc k) = rows_of t 0 (l1_entries s t) ++ tables_rows s (suc t) k

-- what is ahead from index i of L1 table t on; a table or an index that the image lacks is passed over
unfoldable pub ahead : List ℕ → (t i : ℕ) → List Row
ahead s t i =
    if ltb t (roots s) then rows_of t i (drop i (l1_entries s t)) ++ tables_rows s (suc t) (roots s - suc t) else
    []

-- ---- what taking entries does
-- to the figures: the references through them are added
unfoldable pub added : List ℕ → List Row → List ℕ → List ℕ
added s [] z = z
added s (r ∷ rs) z = added s rs (bump_all_wide (l1_refs s r.entry) z)

-- to the first bad entry met: one that was met before, or the first of these and of those below them
unfoldable pub met : List ℕ → List Row → Verdict → Verdict
met s [] v = v
met s (r ∷ rs) v = met s rs (or_else v (entry_verdict s (bad_in s r.root) r.row r.entry Sound))

-- to the place where the check stands: the table of the last one, and the index after it
unfoldable pub root_after : ℕ → List Row → ℕ
root_after t [] = t
root_after t (r ∷ rs) = root_after r.root rs

unfoldable pub row_after : ℕ → List Row → ℕ
row_after i [] = i
row_after i (r ∷ rs) = row_after (suc r.row) rs

-- the figures before the first entry: the references of cluster 0, of the tables and of the blocks in a cleared scratch
unfoldable pub started : List ℕ → List ℕ
started s = bump_all_wide (fixed_refs s) (replicate (2 * clusters s) 0)
