-- What a walk over L1 tables leaves in a scratch: its turns.
-- Assumes nothing.
use Prim.Native.Nat.{ℕ, suc, ◌+◌, ◌-◌, ◌≤◌, ◌<◌}
use mathlib.Core.Path.{◌≡◌, ap, ◌∙◌}
use mathlib.Core.Bool.{Bool}
use mathlib.Core.List.{List}
use native.Mathlib.Omega.{arith}
use Rattle.tally.specs.States.{tree_visited}
use Rattle.qcow2_spec.specs.References.{l1_entries, l1_refs}
use Rattle.qcow2_trees.specs.Walks.{table_by, data_by, roots_visited}

module _ (states : Bool) (s : List ℕ) where
  -- one of the n - t turns
  pub roots_turn : (n t : ℕ) (z : List ℕ) → t < n
      → roots_visited states s t (n - t) z ≡ roots_visited states s (t + 1) (n - (t + 1)) (tree_visited (l1_refs s) (table_by states t) (data_by states t) (l1_entries s t) z)
  unfolding roots_visited
  roots_turn n t z h =
      let e : n - t ≡ suc (n - (t + 1)) = omega arith in
      let g : suc t ≡ t + 1 = omega arith in
      ap (λ (m : ℕ). roots_visited states s t m z) e ∙ ap (λ (u : ℕ). roots_visited states s u (n - (t + 1)) (tree_visited (l1_refs s) (table_by states t) (data_by states t) (l1_entries s t) z)) g

  pub roots-none : (n t : ℕ) (z : List ℕ) → n ≤ t → roots_visited states s t (n - t) z ≡ z
  unfolding roots_visited
  roots-none n t z h = let e : n - t ≡ 0 = omega arith in rw e
