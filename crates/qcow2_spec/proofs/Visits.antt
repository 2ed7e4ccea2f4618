-- Laws of clusters that are visited one after another.
-- Assumes nothing.
use Prim.Native.Nat.{ℕ, ◌+◌, ◌-◌, ◌*◌, ◌/◌, ◌≤◌, ◌<◌}
use mathlib.Core.Path.{◌≡◌}
use mathlib.Core.List.{List}
use borrow.Author.Tests.{eq-eqb, ne_eqb}
use lib.ListN.{drop}
use Rattle.endian.specs.Big.{be64, entries}
use Rattle.tally.specs.Tally.{joined}
use Rattle.tally.specs.States.{visited, visit_all}
use Rattle.tally.proofs.States.{visit_all_append}
use Rattle.qcow2_spec.specs.References.{named}
use Rattle.endian.proofs.Entries.{entries_turn, entries_none}

-- what is to be visited from entry j of k on: entry j first; nothing at the end
module _ (kind : ℕ) (f : ℕ → List ℕ) (k j : ℕ) (t : List ℕ) where
  pub refs_turn : j < k → (s : List ℕ)
      → visit_all kind (joined f (entries (k - j) (drop (8 * j) t))) s
      ≡ visit_all kind (joined f (entries (k - (j + 1)) (drop (8 * (j + 1)) t))) (visit_all kind (f (be64 t (8 * j))) s)
  refs_turn h s = rw (entries_turn k j t h) (visit_all_append kind (f (be64 t (8 * j))) _ s)

  pub refs_end : k ≤ j → (s : List ℕ) → visit_all kind (joined f (entries (k - j) (drop (8 * j) t))) s ≡ s
  unfolding visit_all
  refs_end h s = rw (entries_none k j t h)

-- what a place names
pub named_none : (kind C p : ℕ) (s : List ℕ) → p ≡ 0 → s ≡ visit_all kind (named C p) s
unfolding named visit_all
named_none kind C p s e = rw (eq-eqb p 0 e)

pub named_some : (kind C p : ℕ) (s : List ℕ) → (p ≡ 0 → ⊥) → visited kind s (p / C) ≡ visit_all kind (named C p) s
unfolding named visit_all
named_some kind C p s e = rw (ne_eqb p 0 e)
