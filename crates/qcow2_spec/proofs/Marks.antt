-- An image without snapshots in which nothing is shared and every place has bit 63 beside it has right marks: its check need not look at them
-- again. Assumes nothing.
use Rattle.std.specs.Prelude.{if◌then◌else◌}
use Prim.Native.Nat.{ℕ, suc, ◌+◌, ◌/◌, ◌≤◌, ◌<◌}
use native.Mathlib.Nat.{div-lt_iff_lt-mul}
use native.Mathlib.Omega.{arith}
use mathlib.Core.Path.{◌≡◌, refl, sym, ap, ◌∙◌}
use mathlib.Core.Logic.{◌≢◌}
use mathlib.Core.Bool.{Bool, true, false, not, ◌&&◌, ◌||◌}
use mathlib.Core.List.{List, [], ◌∷◌}
use lib.Dec.{eqb}
use lib.ListN.{get_or, length}
use borrow.Author.Tests.{ltb-false, eqb-false, eq-eqb, ne_eqb, not-true}
use Rattle.choice.specs.Pick.{all, first}
use Rattle.choice.proofs.Runs.{first_passed}
use Rattle.choice.proofs.Tests.{if_yes, true-not-false, and-true}
use Rattle.tally.specs.Tally.{run, joined, occurrences}
use Rattle.tally.proofs.Occurs.{occ_append}
use Rattle.qcow2_spec.specs.Header.{version, cluster_size, clusters, snapshots, roots}
use Rattle.qcow2_spec.specs.Entries.{place, alone, common, good_place, good_l1, good_l2}
use Rattle.qcow2_spec.specs.References.{l1_entries, l2_entries, named, l2_refs, table_refs, l1_refs, fixed_refs, root_refs, references, figures_of}
use Rattle.qcow2_spec.specs.Check.{l2_verdict, entry_verdict, l1_verdict, right_mark, wrong_marks, shared_at}
use Rattle.qcow2_spec.specs.declared.Verdict.{Verdict}
use Rattle.qcow2_spec.proofs.Facts.{Facts, c_pos, n_whole}
use Rattle.qcow2_spec.proofs.Places.{place_inside, l1_place, l2_place}
use Rattle.qcow2_spec.proofs.Single.{joined-one, single_shared}
use Rattle.qcow2_spec.proofs.Verdicts.{figure_is}

-- a good entry that has bit 63 beside its place
abbrev pub own_l2 : List ℕ → ℕ → Bool
own_l2 s e = good_l2 (version s) (cluster_size s) (length s) e && not (common e)

-- the same of an L1 entry and all entries below it
abbrev pub own_row : List ℕ → ℕ → Bool
own_row s e = good_l1 (cluster_size s) (length s) e && not (common e) && (eqb (place e) 0 || all (own_l2 s) (l2_entries s (place e)))

occ_here : (c : ℕ) (l : List ℕ) → 1 ≤ occurrences c (c ∷ l)
unfolding occurrences
occ_here c l = rw (eq-eqb c c refl) (omega arith)

more : (k x : ℕ) (l : List ℕ) → occurrences k l ≤ occurrences k (x ∷ l)
unfolding occurrences
more k x l = omega arith

module _ (s : List ℕ) (f : Facts s) (one : snapshots s ≡ 0) (none : clusters s ≤ first (shared_at s) 0 (clusters s)) where
  abbrev fs : List ℕ
  fs = figures_of s

  -- what is referred to has one reference
  figure_one : (k : ℕ) → k < clusters s → 1 ≤ occurrences k (references s) → get_or fs k 0 ≡ 1
  figure_one k l p =
      omega (arith, figure_is s k l, p, ltb-false 1 (occurrences k (references s)) (sym (single_shared s one k) ∙ first_passed (shared_at s) 0 (clusters s) k (omega (arith, none)) (omega arith) (omega (arith, l))))

  right : (e : ℕ) → common e ≡ false → (place e ≢ 0 → get_or fs (place e / cluster_size s) 0 ≡ 1) → right_mark s fs e ≡ true
  unfolding common right_mark
  right e h g = go (eqb (place e) 0) refl
    where
      own : (a : Bool) → alone e ≡ a → (not (eqb (place e) 0) && not a) ≡ false → eqb (place e) 0 ≡ false → alone e ≡ true
      own true q c z = q
      own false q c z = absurd (true-not-false (ap (λ (b : Bool). not b && true) z) c)

      go : (z : Bool) → eqb (place e) 0 ≡ z → (z || (if eqb (get_or fs (place e / cluster_size s) 0) 1 then alone e else not (alone e))) ≡ true
      go true q = refl
      go false q = if_yes (eqb (get_or fs (place e / cluster_size s) 0) 1) _ _ (eq-eqb _ 1 (g (eqb-false _ _ q))) ∙ own (alone e) refl h q

  inside : (e : ℕ) → good_place (cluster_size s) (length s) e ≡ true → place e ≢ 0 → place e / cluster_size s < clusters s
  inside e g d = (div-lt_iff_lt-mul (c_pos s f)).1 (omega (arith, place_inside (cluster_size s) (length s) e g d, n_whole s f, c_pos s f))

  -- an L2 entry that is counted
  right_l2_lem : (e : ℕ) → own_l2 s e ≡ true → ((k : ℕ) → occurrences k (l2_refs (version s) (cluster_size s) (length s) e) ≤ occurrences k (references s)) → right_mark s fs e ≡ true
  unfolding l2_refs named
  right_l2_lem e h c =
      let a = and-true (good_l2 (version s) (cluster_size s) (length s) e) (not (common e)) h in
      right e (not-true _ a.1) (λ d.
      let k = place e / cluster_size s in
      let r : l2_refs (version s) (cluster_size s) (length s) e ≡ k ∷ [] = rw (a.0, ne_eqb (place e) 0 d) refl in
      figure_one k (inside e (l2_place (version s) (cluster_size s) (length s) e a.0) d) (omega (arith, c k, ap (occurrences k) r, occ_here k [])))

  l2_right : (i j : ℕ) (es : List ℕ) (next : Verdict) → all (own_l2 s) es ≡ true
      → ((k : ℕ) → occurrences k (joined (l2_refs (version s) (cluster_size s) (length s)) es) ≤ occurrences k (references s)) → l2_verdict (wrong_marks s fs) i j es next ≡ next
  unfolding l2_verdict wrong_marks
  l2_right i j [] next h c = refl
  l2_right i j (e ∷ es) next h c =
      let a = and-true (own_l2 s e) (all (own_l2 s) es) h in
      let o : (k : ℕ) → occurrences k (l2_refs (version s) (cluster_size s) (length s) e) + occurrences k (joined (l2_refs (version s) (cluster_size s) (length s)) es) ≤ occurrences k (references s)
      = λ k. omega (arith, c k, occ_append k (l2_refs (version s) (cluster_size s) (length s) e) (joined (l2_refs (version s) (cluster_size s) (length s)) es)) in
      if_yes (right_mark s fs e) _ _ (right_l2_lem e a.0 (λ k. omega (arith, o k))) ∙ l2_right i (suc j) es next a.1 (λ k. omega (arith, o k))

  row_refs : (e : ℕ) → good_l1 (cluster_size s) (length s) e ≡ true → place e ≢ 0
      → l1_refs s e ≡ place e / cluster_size s ∷ joined (l2_refs (version s) (cluster_size s) (length s)) (l2_entries s (place e))
  unfolding l1_refs table_refs
  row_refs e h d = rw (h, ne_eqb (place e) 0 d) refl

  row-right : (i e : ℕ) (next : Verdict) → own_row s e ≡ true → ((k : ℕ) → occurrences k (l1_refs s e) ≤ occurrences k (references s)) → entry_verdict s (wrong_marks s fs) i e next ≡ next
  unfolding entry_verdict wrong_marks
  row-right i e next h c = go (eqb (place e) 0) refl
    where
      G : Bool
      G = good_l1 (cluster_size s) (length s) e

      a : ((G && not (common e)) ≡ true) × ((eqb (place e) 0 || all (own_l2 s) (l2_entries s (place e))) ≡ true)
      a = and-true (G && not (common e)) _ h

      b : (G ≡ true) × (not (common e) ≡ true)
      b = and-true G (not (common e)) a.0

      own : right_mark s fs e ≡ true
      own = right e (not-true _ b.1) (λ d.
          let k = place e / cluster_size s in
          figure_one k (inside e (l1_place (cluster_size s) (length s) e b.0) d) (omega (arith, c k, ap (occurrences k) (row_refs e b.0 d), occ_here k (joined (l2_refs (version s) (cluster_size s) (length s)) (l2_entries s (place e))))))

      go : (z : Bool) → eqb (place e) 0 ≡ z → entry_verdict s (wrong_marks s fs) i e next ≡ next
      go true q = rw (own, q) refl
      go false q = rw (own, q) (l2_right i 0 (l2_entries s (place e)) next (below q) (λ k. later k))
        where
          d : place e ≢ 0
          d = eqb-false _ _ q

          below : eqb (place e) 0 ≡ false → all (own_l2 s) (l2_entries s (place e)) ≡ true
          below z = rw z at a.1

          later : (k : ℕ) → occurrences k (joined (l2_refs (version s) (cluster_size s) (length s)) (l2_entries s (place e))) ≤ occurrences k (references s)
          later k = let x = more k (place e / cluster_size s) (joined (l2_refs (version s) (cluster_size s) (length s)) (l2_entries s (place e))) in omega (arith, c k, ap (occurrences k) (row_refs e b.0 d), x)

  rows_right : (i : ℕ) (es : List ℕ) (next : Verdict) → all (own_row s) es ≡ true → ((k : ℕ) → occurrences k (joined (l1_refs s) es) ≤ occurrences k (references s)) → l1_verdict s (wrong_marks s fs) i es next ≡ next
  unfolding l1_verdict
  rows_right i [] next h c = refl
  rows_right i (e ∷ es) next h c =
      let a = and-true (own_row s e) (all (own_row s) es) h in
      let o : (k : ℕ) → occurrences k (l1_refs s e) + occurrences k (joined (l1_refs s) es) ≤ occurrences k (references s) = λ k. omega (arith, c k, occ_append k (l1_refs s e) (joined (l1_refs s) es)) in
      row-right i e _ a.0 (λ k. omega (arith, o k)) ∙ rows_right (suc i) es next a.1 (λ k. omega (arith, o k))

  counted : (k : ℕ) → occurrences k (joined (l1_refs s) (l1_entries s 0)) ≤ occurrences k (references s)
  unfolding references root_refs
  counted k =
      let e : occurrences k (references s) ≡ occurrences k (fixed_refs s) + occurrences k (joined (root_refs s) (run 0 (roots s))) = occ_append k (fixed_refs s) (joined (root_refs s) (run 0 (roots s))) in
      let r : occurrences k (joined (root_refs s) (run 0 (roots s))) ≡ occurrences k (root_refs s 0) = ap (occurrences k) (joined-one s one (root_refs s)) in
      omega (arith, e, r)

  -- all marks are right
  pub own-marks : (next : Verdict) → all (own_row s) (l1_entries s 0) ≡ true → l1_verdict s (wrong_marks s fs) 0 (l1_entries s 0) next ≡ next
  own-marks next h = rows_right 0 (l1_entries s 0) next h counted
