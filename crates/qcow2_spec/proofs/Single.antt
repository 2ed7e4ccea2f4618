-- An image without snapshots: a cluster is shared exactly if it has two references or more, and bit 63 is right exactly if it is set where
-- there is a place. So its check needs the figures alone. Assumes nothing.
use Prim.Native.Nat.{ℕ, suc, ◌+◌, ◌/◌, ◌<◌, min}
use native.Mathlib.Nat.{zero-add}
use native.Mathlib.Omega.{arith}
use mathlib.Core.Path.{◌≡◌, refl, sym, ap, ◌∙◌}
use mathlib.Core.Logic.{◌⊎◌, inl, inr}
use mathlib.Core.Bool.{Bool, true, false, not, ◌||◌}
use mathlib.Core.List.{List, append-nil}
use lib.Dec.{leb, ltb, eqb}
use lib.ListN.{get_or}
use borrow.Author.Tests.{ltb-true, ltb-false, lt-ltb, le-ltb, lt-leb}
use Rattle.choice.specs.Pick.{all, first}
use Rattle.choice.proofs.Runs.{first_shift}
use Rattle.choice.proofs.Tests.{two_ways}
use Rattle.tally.specs.Tally.{run, joined, occurrences, twice}
use Rattle.tally.proofs.Occurs.{occ_append}
use Rattle.qcow2_spec.specs.Header.{cluster_size, clusters, snapshots, roots}
use Rattle.qcow2_spec.specs.Entries.{place, alone}
use Rattle.qcow2_spec.specs.References.{fixed_refs, root_refs, tables_in, data_in, references, figures_of}
use Rattle.qcow2_spec.specs.Check.{right_mark, shared_by, shared_at}
use Rattle.qcow2_spec.proofs.Refers.{occ_both}
use Rattle.qcow2_spec.proofs.Verdicts.{Unshared, not-shared, figure_is}

module _ (s : List ℕ) (one : snapshots s ≡ 0) where
  alone-root : roots s ≡ 1
  unfolding roots
  alone-root = ap suc one

  -- of the one L1 table
  pub joined-one : (f : ℕ → List ℕ) → joined f (run 0 (roots s)) ≡ f 0
  unfolding run
  joined-one f = rw alone-root (append-nil (f 0))

  module _ (k : ℕ) where
    abbrev F : ℕ
    F = occurrences k (fixed_refs s)

    abbrev A : ℕ
    A = occurrences k (tables_in s 0)

    abbrev D : ℕ
    D = occurrences k (data_in s 0)

    refs_one : occurrences k (references s) ≡ F + (A + D)
    unfolding references
    refs_one =
        occ_append k (fixed_refs s) (joined (root_refs s) (run 0 (roots s)))
        ∙ ap (λ (x : ℕ). F + x) (ap (occurrences k) (joined-one (root_refs s)) ∙ occ_both s 0 k)

    tabs_one : occurrences k (joined (tables_in s) (run 0 (roots s))) ≡ A
    tabs_one = ap (occurrences k) (joined-one (tables_in s))

    data_one : occurrences k (joined (data_in s) (run 0 (roots s))) ≡ D
    data_one = ap (occurrences k) (joined-one (data_in s))

    -- shared exactly if it has two references or more
    pub single_shared : shared_at s k ≡ ltb 1 (occurrences k (references s))
    unfolding shared_at shared_by run
    single_shared = go (two_ways (ltb 1 (occurrences k (references s))))
      where
        T : ℕ
        T = occurrences k (joined (tables_in s) (run 0 (roots s)))

        E : ℕ
        E = occurrences k (joined (data_in s) (run 0 (roots s)))

        some : (t : Bool) → ltb 1 (F + min 1 T + min 1 E) ≡ t → 1 < F + (A + D) → (t || not (all (λ u. leb (occurrences k (root_refs s u)) 1) (run 0 (roots s)))) ≡ true
        some true e l = refl
        some false e l =
            rw (alone-root, lt-leb (occurrences k (root_refs s 0)) 1 (omega (arith, ltb-false 1 (F + min 1 T + min 1 E) e, tabs_one, data_one, occ_both s 0 k))) refl

        go : (ltb 1 (occurrences k (references s)) ≡ true) ⊎ (ltb 1 (occurrences k (references s)) ≡ false) → shared_at s k ≡ ltb 1 (occurrences k (references s))
        go (inl h) = some (ltb 1 (F + min 1 T + min 1 E)) refl (omega (arith, ltb-true 1 (occurrences k (references s)) h, refs_one)) ∙ sym h
        go (inr h) = not-shared s k few ∙ sym h
          where
            few : Unshared s k
            few = record {
              roles = omega (arith, ltb-false 1 (occurrences k (references s)) h, refs_one, tabs_one, data_one);
              trees = λ t l. let z : t ≡ 0 = omega (arith, alone-root) in rw z (omega (arith, ltb-false 1 (occurrences k (references s)) h, refs_one, occ_both s 0 k));
            }

    pub single_figure : k < clusters s → shared_at s k ≡ twice (figures_of s) k
    unfolding twice
    single_figure l = single_shared ∙ go (two_ways (ltb 1 (occurrences k (references s))))
      where
        x : ℕ
        x = occurrences k (references s)

        go : (ltb 1 x ≡ true) ⊎ (ltb 1 x ≡ false) → ltb 1 x ≡ ltb 1 (get_or (figures_of s) k 0)
        go (inl h) = h ∙ sym (lt-ltb 1 (get_or (figures_of s) k 0) (omega (arith, figure_is s k l, ltb-true 1 x h)))
        go (inr h) = h ∙ sym (le-ltb 1 (get_or (figures_of s) k 0) (omega (arith, figure_is s k l, ltb-false 1 x h)))

  -- the lowest shared cluster, by the figures
  pub single_lowest : first (shared_at s) 0 (clusters s) ≡ first (twice (figures_of s)) 0 (clusters s)
  single_lowest = omega (arith, first_shift (shared_at s) (twice (figures_of s)) 0 0 (clusters s) (λ d l. rw zero-add (single_figure d l)))

-- where a place has one reference, its mark is right exactly if it is set
pub single_mark : (s fs : List ℕ) (e : ℕ) → get_or fs (place e / cluster_size s) 0 ≡ 1 → right_mark s fs e ≡ (eqb (place e) 0 || alone e)
unfolding right_mark
single_mark s fs e h = rw h refl
