-- A cluster is shared exactly if the walk over the fixed places and then the L1 tables in order leaves it in the bad state (`Roles` of tally): a check
-- needs a small number for each cluster, and no list. Assumes nothing.
use Prim.Native.Nat.{ℕ, ◌+◌, ◌≤◌, min, zero-le}
use native.Mathlib.Decide.{ℕ_discrete}
use native.Mathlib.Omega.{arith}
use mathlib.Core.Path.{◌≡◌, sym, ◌∙◌}
use mathlib.Core.Logic.{◌⊎◌, inl, inr, ◌≢◌}
use mathlib.Core.Bool.{Bool, true, false}
use mathlib.Core.List.{List}
use lib.Dec.{eqb}
use borrow.Author.Tests.{eq-eqb, ne_eqb, ltb-false, le-ltb}
use Rattle.choice.specs.Pick.{count}
use Rattle.choice.proofs.Found.{count-zero, count-false}
use Rattle.choice.proofs.Tests.{true-not-false, two_ways}
use Rattle.tally.specs.Tally.{run, joined, occurrences}
use Rattle.tally.specs.Roles.{bad_state}
use Rattle.tally.proofs.Roles.{twice_by, state_of, bad-shared, good_unshared}
use Rattle.qcow2_spec.specs.Header.{roots}
use Rattle.qcow2_spec.specs.References.{l1_entries, l1_refs, fixed_refs, tables_in, data_in}
use Rattle.qcow2_spec.specs.Check.{shared_at}
use Rattle.qcow2_spec.proofs.Refers.{occ_both}
use Rattle.qcow2_spec.proofs.Verdicts.{Unshared, unshared, not-shared}

module _ (s : List ℕ) (k : ℕ) where
  -- cluster k's state after the walk
  abbrev pub state : ℕ
  state = state_of (l1_refs s) (l1_entries s) k (fixed_refs s) (roots s)

  abbrev by : ℕ → Bool
  by = twice_by (l1_refs s) (l1_entries s) k

  good : state ≢ bad_state → Unshared s k
  unfolding tables_in data_in
  good d =
      let g = good_unshared (l1_refs s) (l1_entries s) k (fixed_refs s) (roots s) d in
      record {
        roles = g.0;
        trees = λ t l. omega (arith, occ_both s t k, ltb-false 1 (occurrences k (tables_in s t) + occurrences k (data_in s t)) (count-zero by 0 (roots s) g.1 t zero-le (omega arith)));
      }

  no_bad : Unshared s k → state ≢ bad_state
  unfolding tables_in data_in
  no_bad u e = go (bad-shared (l1_refs s) (l1_entries s) k (fixed_refs s) (roots s) e)
    where
      none : count by 0 (roots s) ≡ 0
      none = count-false by 0 (roots s) (λ t a b. le-ltb 1 (occurrences k (tables_in s t) + occurrences k (data_in s t)) (omega (arith, occ_both s t k, u.trees t (omega arith))))

      go : (2 ≤ occurrences k (fixed_refs s) + min 1 (occurrences k (joined (tables_in s) (run 0 (roots s)))) + min 1 (occurrences k (joined (data_in s) (run 0 (roots s))))) ⊎ (1 ≤ count by 0 (roots s)) → ⊥
      go (inl h) = omega (arith, u.roles, h)
      go (inr h) = omega (arith, none, h)

  pub reached-shared : eqb state bad_state ≡ shared_at s k
  reached-shared = go (two_ways (shared_at s k)) (ℕ_discrete state bad_state)
    where
      go : (shared_at s k ≡ true) ⊎ (shared_at s k ≡ false) → Dec (state ≡ bad_state) → eqb state bad_state ≡ shared_at s k
      go (inl h) (yes e) = eq-eqb state bad_state e ∙ sym h
      go (inl h) (no d) = absurd (true-not-false h (not-shared s k (good d)))
      go (inr h) (yes e) = absurd (no_bad (unshared s k h) e)
      go (inr h) (no d) = ne_eqb state bad_state d ∙ sym h
