-- All L1 tables, walked one after another: what is visited, and how far their entries pass.
-- Assumes nothing.
use Rattle.std.specs.Prelude.{ℕ, zero, suc, ◌+◌, ◌≤◌, ◌<◌, Bool, true, false, List, ltb, if◌then◌else◌}
use Rattle.tally.specs.States.{table_kind, data_kind, tree_visited}
use Rattle.qcow2_spec.specs.Header.{root_size}
use Rattle.qcow2_spec.specs.References.{l1_entries, l1_refs}
use Rattle.qcow2_refs.specs.Walks.{PassTo, ClearTo}
use Rattle.qcow2_trees.specs.declared.Spot.{Spot}

-- the kinds of a walk over L1 table t: by its L2 tables and by data, or counting alone
abbrev pub table_by : (states : Bool) → ℕ → ℕ
table_by true t = table_kind t
table_by false t = 0

abbrev pub data_by : (states : Bool) → ℕ → ℕ
data_by true t = data_kind t
data_by false t = 0

-- a scratch once k L1 tables of s from t on are walked
unfoldable pub roots_visited : (states : Bool) → List ℕ → (t k : ℕ) → List ℕ → List ℕ
roots_visited states s t zero z = z
roots_visited states s t (suc k) z =
    roots_visited states s (suc t) k (tree_visited (l1_refs s) (table_by states t) (data_by states t) (l1_entries s t) z)

-- how far all passes, once L1 table t is walked too, of whose entries `good` at the front pass with all below them, of `rows`
unfoldable pub onward : Spot → (t good below rows : ℕ) → Spot
onward f t good below rows =
    if ltb f.root t then f else
    if ltb good rows then record { root = t; row = good; below = below } else
    record { root = t + 1; row = 0; below = 0 }

-- of the first n L1 tables those before `root` pass with all below them; if `root` is one of them, so do its entries before `row`, and the
-- first `below` entries of the table below this one pass
pub record Front (states : Bool) (s : List ℕ) (n root row below : ℕ) : Type 0 where
  pub few : root ≤ n
  pub whole : (t : ℕ) → t < root → PassTo (data_by states t) s t (root_size s t)
  pub inside : root < n → row < root_size s root
  pub rows : PassTo (data_by states root) s root row
  pub clear : ClearTo (data_by states root) s root row below
