-- A cleared scratch once the fixed places and then the L1 tables in order are walked (`States` of tally): the first bad number in it is that of the lowest
-- shared cluster, and where there is none its counts are the figures. Without snapshots counting alone does. Assumes nothing.
use Prim.Native.Nat.{ℕ, ◌*◌, ◌≤◌, ◌<◌}
use native.Mathlib.Nat.{zero-add, add-zero}
use native.Mathlib.Omega.{arith}
use mathlib.Core.Path.{◌≡◌, sym, ap, ◌∙◌, fun_ext}
use mathlib.Core.Bool.{Bool}
use mathlib.Core.List.{List, ◌++◌}
use lib.Dec.{ltb}
use lib.ListN.{replicate}
use Rattle.choice.specs.Pick.{first}
use Rattle.choice.proofs.Runs.{first_shift}
use Rattle.endian.specs.Big.{be16}
use Rattle.tally.specs.Tally.{twice, wide, bump_all_wide}
use Rattle.tally.specs.States.{fixed_kind, bad_mark, visit_all, tree_visited, forest_visited, unpacked}
use Rattle.tally.proofs.Wide.{tallied_wide, wide_at, figures_fit}
use Rattle.tally.proofs.States.{visit_all-count, tree_visited-count, bump_all_wide_append}
use Rattle.tally.proofs.Tallies.{tallied_bad, unpacked-figures}
use Rattle.qcow2_spec.specs.Header.{clusters, snapshots, roots}
use Rattle.qcow2_spec.specs.References.{l1_entries, l1_refs, fixed_refs, root_refs, references, figures_of}
use Rattle.qcow2_spec.specs.Check.{shared_at}
use Rattle.qcow2_spec.proofs.Facts.{Facts, root-count}
use Rattle.qcow2_spec.proofs.Single.{joined-one, single_lowest}
use Rattle.qcow2_spec.proofs.Reached.{reached-shared}

module _ (s : List ℕ) where
  -- the scratch after the walk
  abbrev pub walked_scratch : List ℕ
  walked_scratch = forest_visited (l1_refs s) (l1_entries s) 0 (roots s) (visit_all fixed_kind (fixed_refs s) (replicate (2 * clusters s) 0))

  abbrev pub bad_in : ℕ → Bool
  bad_in k = bad_mark (be16 walked_scratch (2 * k))

  module _ (f : Facts s) where
    few : roots s ≤ 100
    few = omega (arith, root-count s f, f.some)

    -- cluster by cluster
    pub states_bad : (k : ℕ) → k < clusters s → bad_in k ≡ shared_at s k
    states_bad k l = tallied_bad (l1_refs s) (l1_entries s) (fixed_refs s) (roots s) (clusters s) few k l ∙ reached-shared s k

    pub states_shared : first bad_in 0 (clusters s) ≡ first (shared_at s) 0 (clusters s)
    states_shared =
        sym (add-zero (first bad_in 0 (clusters s)))
        ∙ first_shift bad_in (shared_at s) 0 0 (clusters s) (λ d l. rw zero-add (states_bad d l))
        ∙ zero-add (first (shared_at s) 0 (clusters s))

    pub states_figures : clusters s ≤ first (shared_at s) 0 (clusters s) → unpacked walked_scratch (clusters s) ≡ wide (figures_of s)
    unfolding figures_of references root_refs
    states_figures h = unpacked-figures (l1_refs s) (l1_entries s) (fixed_refs s) (roots s) (clusters s) few (omega (arith, h, states_shared))

  -- ---- without snapshots
  module _ (one : snapshots s ≡ 0) where
    pub counted-figures : tree_visited (l1_refs s) 0 0 (l1_entries s 0) (visit_all 0 (fixed_refs s) (replicate (2 * clusters s) 0)) ≡ wide (figures_of s)
    unfolding figures_of references root_refs
    counted-figures =
        tree_visited-count (l1_refs s) (l1_entries s 0) _ ∙ ap (bump_all_wide (root_refs s 0)) (visit_all-count (fixed_refs s) (replicate (2 * clusters s) 0))
        ∙ sym (bump_all_wide_append (fixed_refs s) (root_refs s 0) (replicate (2 * clusters s) 0))
        ∙ ap (λ (l : List ℕ). bump_all_wide (fixed_refs s ++ l) (replicate (2 * clusters s) 0)) (sym (joined-one s one (root_refs s)))
        ∙ tallied_wide (references s) (clusters s)

    pub counted-shared : first (λ k. ltb 1 (be16 (wide (figures_of s)) (2 * k))) 0 (clusters s) ≡ first (shared_at s) 0 (clusters s)
    unfolding figures_of twice
    counted-shared =
        ap (λ (p : ℕ → Bool). first p 0 (clusters s)) (fun_ext (λ k. ap (ltb 1) (wide_at (figures_of s) k (figures_fit (references s) 0 (clusters s))))) ∙ sym (single_lowest s one)
