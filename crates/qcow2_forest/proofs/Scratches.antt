-- What the walks over all L1 tables leave in a scratch.
-- Assumes nothing.
use Prim.Native.Nat.{ℕ, zero, suc, ◌*◌, ◌/◌, ◌≤◌, ◌<◌}
use mathlib.Core.Path.{◌≡◌, refl, sym, ap, ◌∙◌}
use mathlib.Core.Bool.{true, false}
use mathlib.Core.List.{List, ◌++◌}
use native.Mathlib.Omega.{arith}
use lib.Dec.{ltb}
use lib.ListN.{length, replicate, length-replicate}
use Rattle.choice.specs.Pick.{first}
use Rattle.endian.specs.Big.{be16}
use Rattle.tally.specs.Tally.{run, joined, wide, bump_all_wide}
use Rattle.tally.specs.States.{fixed_kind, bad_mark, visit_all, tree_visited, forest_visited, unpacked}
use Rattle.tally.proofs.States.{visit_all-count, bump_all_wide_append, tree_visited-count, length-visit_all, length-forest_visited}
use Rattle.tally.proofs.Wide.{tallied_wide}
use Rattle.window.specs.Window.{Board, board, visit_all_in}
use Rattle.window.proofs.Numbers.{visit_all_in-whole}
use Rattle.qcow2_spec.specs.Header.{clusters, snapshots, roots}
use Rattle.qcow2_spec.specs.References.{l1_entries, l1_refs, fixed_refs, root_refs, references, figures_of}
use Rattle.qcow2_spec.specs.Check.{shared_at}
use Rattle.qcow2_spec.proofs.Facts.{Facts}
use Rattle.qcow2_spec.proofs.Walked.{states_bad, states_shared, states_figures, counted-shared}
use Rattle.qcow2_trees.specs.Walks.{roots_visited}
use Rattle.qcow2_forest.specs.Forest.{states_of}

-- a scratch of N clusters that is cleared, and then visited as one window
pub cleared-visited : (kind N : ℕ) (cs z c y : List ℕ) (low r : ℕ) → kind < 512 → length z ≡ 2 * N → c ≡ replicate (length z) 0
    → board y r ≡ visit_all_in kind 0 cs (board c low) → y ≡ visit_all kind cs (replicate (2 * N) 0)
cleared-visited kind N cs z c y low r h len e v =
    let Z : List ℕ = replicate (2 * N) 0 in
    let d : c ≡ Z = rw len at e in
    let u : board y r ≡ visit_all_in kind 0 cs (board Z low) = rw d at v in
    ap (λ (w : Board). w.bytes) (u ∙ visit_all_in-whole N low Z (length-replicate {A = ℕ} (2 * N) 0) kind (λ q. omega (arith, q, h)) cs)

module _ (s : List ℕ) where
  -- counting alone
  roots-count : (k t : ℕ) (z : List ℕ) → roots_visited false s t k z ≡ bump_all_wide (joined (root_refs s) (run t k)) z
  unfolding roots_visited run root_refs bump_all_wide
  roots-count zero t z = refl
  roots-count (suc k) t z =
      roots-count k (suc t) (tree_visited (l1_refs s) 0 0 (l1_entries s t) z)
      ∙ ap (bump_all_wide (joined (root_refs s) (run (suc t) k))) (tree_visited-count (l1_refs s) (l1_entries s t) z)
      ∙ sym (bump_all_wide_append (joined (l1_refs s) (l1_entries s t)) (joined (root_refs s) (run (suc t) k)) z)

  pub all-counted : (N : ℕ) → N ≡ clusters s → roots_visited false s 0 (roots s) (visit_all 0 (fixed_refs s) (replicate (2 * N) 0)) ≡ wide (figures_of s)
  unfolding figures_of references
  all-counted N e =
      let Z : List ℕ = replicate (2 * N) 0 in
      roots-count (roots s) 0 (visit_all 0 (fixed_refs s) Z)
      ∙ ap (bump_all_wide (joined (root_refs s) (run 0 (roots s)))) (visit_all-count (fixed_refs s) Z)
      ∙ sym (bump_all_wide_append (fixed_refs s) (joined (root_refs s) (run 0 (roots s))) Z)
      ∙ rw e (tallied_wide (fixed_refs s ++ joined (root_refs s) (run 0 (roots s))) (clusters s))

  -- with states
  roots_states : (k t : ℕ) (z : List ℕ) → roots_visited true s t k z ≡ forest_visited (l1_refs s) (l1_entries s) t k z
  unfolding roots_visited forest_visited
  roots_states zero t z = refl
  roots_states (suc k) t z = roots_states k (suc t) _

  abbrev start : List ℕ
  start = visit_all fixed_kind (fixed_refs s) (replicate (2 * clusters s) 0)

  states_are : states_of s ≡ forest_visited (l1_refs s) (l1_entries s) 0 (roots s) start
  unfolding states_of
  states_are = roots_states (roots s) 0 start

  pub all-walked : (N : ℕ) → N ≡ clusters s → roots_visited true s 0 (roots s) (visit_all fixed_kind (fixed_refs s) (replicate (2 * N) 0)) ≡ states_of s
  unfolding states_of
  all-walked N e = rw e

  pub length_states : length (states_of s) ≡ 2 * clusters s
  length_states =
      ap length states_are ∙ length-forest_visited (l1_refs s) (l1_entries s) (roots s) 0 start
      ∙ length-visit_all fixed_kind (fixed_refs s) (replicate (2 * clusters s) 0) ∙ length-replicate {A = ℕ} (2 * clusters s) 0

  -- a number is bad exactly where its cluster is shared
  pub shared_state : (f : Facts s) (k : ℕ) → k < clusters s → bad_mark (be16 (states_of s) (2 * k)) ≡ shared_at s k
  shared_state f k l = rw states_are (states_bad s f k l)

  -- the lowest shared cluster by a scratch's numbers, whose length is that of its image's
  pub shared_states : (f : Facts s) (z : List ℕ) → z ≡ states_of s → first (λ k. bad_mark (be16 z (2 * k))) 0 (length z / 2) ≡ first (shared_at s) 0 (clusters s)
  shared_states f z e =
      let h : length z / 2 ≡ clusters s = omega (arith, ap length e, length_states) in
      rw (h, e, states_are) (states_shared s f)

  pub unpacked_states : (f : Facts s) (z : List ℕ) → z ≡ states_of s → clusters s ≤ first (shared_at s) 0 (clusters s) → unpacked z (length z / 2) ≡ wide (figures_of s)
  unpacked_states f z e none =
      let h : length z / 2 ≡ clusters s = omega (arith, ap length e, length_states) in
      rw (h, e, states_are) (states_figures s f none)

  pub shared-counts : (one : snapshots s ≡ 0) (z : List ℕ) (N : ℕ) → N ≡ clusters s → length z ≡ 2 * N → z ≡ wide (figures_of s)
      → first (λ k. ltb 1 (be16 z (2 * k))) 0 (length z / 2) ≡ first (shared_at s) 0 (clusters s)
  shared-counts one z N e l w =
      let h : length z / 2 ≡ clusters s = omega arith in
      rw (h, w) (counted-shared s one)
