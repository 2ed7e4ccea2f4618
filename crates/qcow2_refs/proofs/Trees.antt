-- Laws of a tree that is visited entry by entry: what is left from entry j of k on, and nothing at the end.
-- Assumes nothing.
use Prim.Native.Nat.{ℕ, ◌+◌, ◌-◌, ◌*◌, ◌≤◌, ◌<◌}
use mathlib.Core.Path.{◌≡◌}
use mathlib.Core.List.{List}
use lib.ListN.{drop}
use Rattle.endian.specs.Big.{be64, entries}
use Rattle.tally.specs.States.{entry_visited, tree_visited}
use Rattle.endian.proofs.Entries.{entries_turn, entries_none}

module _ (f : ℕ → List ℕ) (table leaf k j : ℕ) (t s : List ℕ) where
  pub tree_turn : j < k
      → tree_visited f table leaf (entries (k - j) (drop (8 * j) t)) s
      ≡ tree_visited f table leaf (entries (k - (j + 1)) (drop (8 * (j + 1)) t)) (entry_visited table leaf (f (be64 t (8 * j))) s)
  unfolding tree_visited
  tree_turn h = rw (entries_turn k j t h)

  pub tree_end : k ≤ j → tree_visited f table leaf (entries (k - j) (drop (8 * j) t)) s ≡ s
  unfolding tree_visited
  tree_end h = rw (entries_none k j t h)
