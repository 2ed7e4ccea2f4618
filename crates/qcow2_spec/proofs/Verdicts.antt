-- What the verdict says, in the machinery's terms. Assumes nothing.
use Rattle.std.specs.Prelude.{if◌then◌else◌}
use Prim.Native.Nat.{ℕ, zero, suc, ◌+◌, ◌-◌, ◌*◌, ◌/◌, ◌%◌, ◌^◌, ◌≤◌, ◌<◌, zero-le, min}
use native.Mathlib.Nat.{zero-add, not-suc-le-zero, zero-div, div-lt_iff_lt-mul, le_refl}
use native.Mathlib.Decide.{ℕ_discrete, dec_lt}
use native.Mathlib.Omega.{arith}
use mathlib.Core.Path.{◌≡◌, refl, sym, ap, ◌∙◌, subst}
use mathlib.Core.Logic.{◌⊎◌, inl, inr, ◌≢◌}
use mathlib.Core.Bool.{Bool, true, false, not, ◌||◌}
use mathlib.Core.List.{List}
use lib.Dec.{leb, ltb, eqb}
use lib.ListN.{length, get_or, drop}
use borrow.Author.Tests.{ltb-false, leb-true, eqb-true, eqb-false, eq-eqb, ne_eqb, not-true, not-false, le-ltb, le-leb}
use Rattle.cuts.proofs.Cell.{mem}
use Rattle.cuts.proofs.Refs.{tabs, dats, refs_is, tree_refs}
use Rattle.cuts.proofs.Meta.{l1, l2, tab, dat, dat_none, dat_some, blk, fix, refs_of, Right, Sound}
use Rattle.choice.proofs.Runs.{first_passed}
use Rattle.choice.proofs.Found.{first-false, count-zero, count-false}
use Rattle.choice.specs.Pick.{all, first, count}
use Rattle.endian.specs.Big.{be64, part, entries}
use Rattle.endian.proofs.Entries.{be64-drop}
use Rattle.qcow2_spec.specs.Header.{most_l1, version, cluster_size, clusters, blocks, per_table, roots, root_size, root_at}
use Rattle.qcow2_spec.specs.Entries.{place, alone, good_l1, good_l2}
use Rattle.qcow2_spec.specs.Counts.{count_of}
use Rattle.tally.specs.Tally.{run, joined, occurrences}
use Rattle.tally.proofs.Laws.{figures-at}
use Rattle.tally.proofs.Occurs.{occ_append}
use Rattle.qcow2_spec.specs.References.{l1_entries, l2_entries, fixed_refs, root_refs, tables_in, data_in, most_figure, figures_of, references}
use Rattle.qcow2_spec.specs.Check.{short, over, Seek, l2_verdict, entry_verdict, l1_verdict, bad_in, roots_verdict, right_mark, wrong_marks, shared_by, shared_at, counts_verdict, verdict}
use Rattle.qcow2_spec.specs.Series.{Healthy, Bytes}
use Rattle.qcow2_spec.specs.declared.Verdict.{Verdict}
use Rattle.qcow2_spec.specs.declared.Verdict.TheVariants.{Sound as IsSound, Leaks, Shared, Short}
use Rattle.choice.proofs.Tests.{if_yes, if_no, and-true, or-false, false-or, two_ways}
use Rattle.qcow2_spec.proofs.Numbers.{all-numbers, next-number, part8}
use Rattle.qcow2_spec.proofs.Facts.{Facts, c_8, c_pos, n_whole, block_named, root-few, root-count}
use Rattle.qcow2_spec.proofs.Geo.{nr, geo, code, geo_ok}
use Rattle.qcow2_spec.proofs.Kept.{l1_at_lem, l1_absent, l2_at, blk_own, cnt_own}
use Rattle.qcow2_spec.proofs.Refers.{fixed_eq, tabs_eq, dats_eq, tree_eq, tree_none, refs_eq, placed1, placed2, div_back, div_none}

-- ---- a verdict that is healthy came past its tests
past : (b : Bool) (w v : Verdict) → (Healthy w → ⊥) → Healthy (if b then w else v) → (b ≡ false) × Healthy v
past true w v n h = absurd (n h)
past false w v n h = (refl, h)

passed : (b : Bool) (w v : Verdict) → (Healthy w → ⊥) → Healthy (if b then v else w) → (b ≡ true) × Healthy v
passed true w v n h = (refl, h)
passed false w v n h = absurd (n h)

-- a verdict that names what a search finds is not healthy
record Ill (w : Seek) : Type 0 where
  one : (i : ℕ) → Healthy (w.bad1 i) → ⊥
  two : (i j : ℕ) → Healthy (w.bad2 i j) → ⊥

module _ (w : Seek) (i : ℕ) (next : Verdict) where
  l2_good : Ill w → (k j : ℕ) (t : List ℕ) → Healthy (l2_verdict w i j (entries k t) next) → ((x : ℕ) → x < k → w.good2 (be64 t (8 * x)) ≡ true) × Healthy next
  unfolding l2_verdict entries
  l2_good ill zero j t h = ((λ x l. absurd (not-suc-le-zero l)), h)
  l2_good ill (suc k) j t h =
      let p = passed (w.good2 (be64 t 0)) (w.bad2 i j) (l2_verdict w i (suc j) (entries k (drop 8 t)) next) (ill.two i j) h in
      let r = l2_good ill k (suc j) (drop 8 t) p.1 in
      (all-numbers (λ (e : ℕ). w.good2 e ≡ true) k t p.0 r.0, r.1)

  l2_pass : (k j : ℕ) (t : List ℕ) → ((x : ℕ) → x < k → w.good2 (be64 t (8 * x)) ≡ true) → l2_verdict w i j (entries k t) next ≡ next
  unfolding l2_verdict entries
  l2_pass zero j t h = refl
  l2_pass (suc k) j t h =
      if_yes (w.good2 (be64 t 0)) _ (w.bad2 i j) (h 0 (omega arith))
      ∙ l2_pass k (suc j) (drop 8 t) (λ x l. ap w.good2 (next-number t x) ∙ h (suc x) (omega arith))

module _ (s : List ℕ) (w : Seek) where
  -- an L1 entry and the L2 entries below it pass
  pub record EntryOk (e : ℕ) : Type 0 where
    pub own : w.good1 e ≡ true
    pub below : place e ≢ 0 → (j : ℕ) → j < per_table s → w.good2 (be64 (part s (place e) (cluster_size s)) (8 * j)) ≡ true

  entry-good : Ill w → (i e : ℕ) (next : Verdict) → Healthy (entry_verdict s w i e next) → EntryOk e × Healthy next
  unfolding entry_verdict l2_entries
  entry-good ill i e next h = go (two_ways (eqb (place e) 0))
    where
      rest : Verdict
      rest = l2_verdict w i 0 (entries (per_table s) (part s (place e) (cluster_size s))) next

      p : (not (w.good1 e) ≡ false) × Healthy (if eqb (place e) 0 then next else rest)
      p = past (not (w.good1 e)) (w.bad1 i) (if eqb (place e) 0 then next else rest) (ill.one i) h

      go : (eqb (place e) 0 ≡ true) ⊎ (eqb (place e) 0 ≡ false) → EntryOk e × Healthy next
      go (inl z) =
          (record { own = not-false _ p.0; below = λ d. absurd (d (eqb-true _ _ z)) }, subst Healthy (if_yes (eqb (place e) 0) next rest z) p.1)
      go (inr z) =
          let r = l2_good w i next ill (per_table s) 0 (part s (place e) (cluster_size s)) (subst Healthy (if_no (eqb (place e) 0) next rest z) p.1) in
          (record { own = not-false _ p.0; below = λ d. r.0 }, r.1)

  entry_pass : (i e : ℕ) (next : Verdict) → EntryOk e → entry_verdict s w i e next ≡ next
  unfolding entry_verdict l2_entries
  entry_pass i e next k =
      if_no (not (w.good1 e)) (w.bad1 i) _ (ap not k.own) ∙ go (two_ways (eqb (place e) 0))
    where
      rest : Verdict
      rest = l2_verdict w i 0 (entries (per_table s) (part s (place e) (cluster_size s))) next

      go : (eqb (place e) 0 ≡ true) ⊎ (eqb (place e) 0 ≡ false) → (if eqb (place e) 0 then next else rest) ≡ next
      go (inl z) = if_yes (eqb (place e) 0) next rest z
      go (inr z) = if_no (eqb (place e) 0) next rest z ∙ l2_pass w i next (per_table s) 0 (part s (place e) (cluster_size s)) (k.below (eqb-false _ _ z))

  l1_good : Ill w → (next : Verdict) (k i : ℕ) (t : List ℕ) → Healthy (l1_verdict s w i (entries k t) next) → ((x : ℕ) → x < k → EntryOk (be64 t (8 * x))) × Healthy next
  unfolding l1_verdict entries
  l1_good ill next zero i t h = ((λ x l. absurd (not-suc-le-zero l)), h)
  l1_good ill next (suc k) i t h =
      let p = entry-good ill i (be64 t 0) (l1_verdict s w (suc i) (entries k (drop 8 t)) next) h in
      let r = l1_good ill next k (suc i) (drop 8 t) p.1 in
      (all-numbers EntryOk k t p.0 r.0, r.1)

  l1_pass : (next : Verdict) (k i : ℕ) (t : List ℕ) → ((x : ℕ) → x < k → EntryOk (be64 t (8 * x))) → l1_verdict s w i (entries k t) next ≡ next
  unfolding l1_verdict entries
  l1_pass next zero i t h = refl
  l1_pass next (suc k) i t h =
      entry_pass i (be64 t 0) _ (h 0 (omega arith))
      ∙ l1_pass next k (suc i) (drop 8 t) (λ x l. subst EntryOk (sym (next-number t x)) (h (suc x) (omega arith)))

-- every entry of L1 table t passes
abbrev RootOk : List ℕ → Seek → ℕ → Type 0
RootOk s w t = (x : ℕ) → x < root_size s t → EntryOk s w (be64 (drop (root_at s t) s) (8 * x))

module _ (s : List ℕ) (next : Verdict) where
  bad_ill : (t : ℕ) → Ill (bad_in s t)
  unfolding bad_in Healthy
  bad_ill t = record { one = λ i z. z; two = λ i j z. z }

  roots-good : (k t : ℕ) → Healthy (roots_verdict s t k next) → ((u : ℕ) → t ≤ u → u < t + k → RootOk s (bad_in s u) u) × Healthy next
  unfolding roots_verdict l1_entries
  roots-good zero t h = ((λ u a b. absurd (omega arith)), h)
  roots-good (suc k) t h =
      let p = l1_good s (bad_in s t) (bad_ill t) (roots_verdict s (suc t) k next) (root_size s t) 0 (drop (root_at s t) s) h in
      let r = roots-good k (suc t) p.1 in
      ((λ u a b. pick u a b (ℕ_discrete u t) p.0 r.0), r.1)
    where
      pick : (u : ℕ) → t ≤ u → u < t + suc k → Dec (u ≡ t) → RootOk s (bad_in s t) t → ((u : ℕ) → suc t ≤ u → u < suc t + k → RootOk s (bad_in s u) u) → RootOk s (bad_in s u) u
      pick u a b (yes e) p r = subst (λ (x : ℕ). RootOk s (bad_in s x) x) (sym e) p
      pick u a b (no d) p r = r u (omega arith) (omega arith)

  roots_pass : (k t : ℕ) → ((u : ℕ) → t ≤ u → u < t + k → RootOk s (bad_in s u) u) → roots_verdict s t k next ≡ next
  unfolding roots_verdict l1_entries
  roots_pass zero t h = refl
  roots_pass (suc k) t h =
      l1_pass s (bad_in s t) _ (root_size s t) 0 (drop (root_at s t) s) (h t (le_refl t) (omega arith)) ∙ roots_pass k (suc t) (λ u a b. h u (omega arith) (omega arith))

-- ---- sharing
all-run : (p : ℕ → Bool) (k i : ℕ) → all p (run i k) ≡ true → (t : ℕ) → i ≤ t → t < i + k → p t ≡ true
unfolding run
all-run p zero i h t a b = absurd (omega arith)
all-run p (suc k) i h t a b = go (ℕ_discrete t i) (all-run p k (suc i) (and-true (p i) _ h).1 t)
  where
    go : Dec (t ≡ i) → (suc i ≤ t → t < suc i + k → p t ≡ true) → p t ≡ true
    go (yes e) r = rw e (and-true (p i) _ h).0
    go (no d) r = r (omega arith) (omega arith)

pub run-all : (p : ℕ → Bool) (k i : ℕ) → ((t : ℕ) → i ≤ t → t < i + k → p t ≡ true) → all p (run i k) ≡ true
unfolding run
run-all p zero i h = refl
run-all p (suc k) i h = rw (h i (le_refl i) (omega arith)) (run-all p k (suc i) (λ t a b. h t (omega arith) (omega arith)))

-- each list has c once at most
few-joined : (c : ℕ) (f : ℕ → List ℕ) (k i : ℕ) → ((t : ℕ) → i ≤ t → t < i + k → occurrences c (f t) ≤ 1) → occurrences c (joined f (run i k)) ≤ k
unfolding run occurrences
few-joined c f zero i h = le_refl 0
few-joined c f (suc k) i h =
    omega (arith, occ_append c (f i) (joined f (run (suc i) k)), h i (le_refl i) (omega arith), few-joined c f k (suc i) (λ t a b. h t (omega arith) (omega arith)))

-- cluster c is not shared
pub record Unshared (s : List ℕ) (c : ℕ) : Type 0 where
  pub roles : occurrences c (fixed_refs s) + min 1 (occurrences c (joined (tables_in s) (run 0 (roots s)))) + min 1 (occurrences c (joined (data_in s) (run 0 (roots s)))) ≤ 1
  pub trees : (t : ℕ) → t < roots s → occurrences c (root_refs s t) ≤ 1

module _ (s : List ℕ) (c : ℕ) where
  pub unshared : shared_at s c ≡ false → Unshared s c
  unfolding shared_at shared_by
  unshared h =
      let A = occurrences c (fixed_refs s) + min 1 (occurrences c (joined (tables_in s) (run 0 (roots s)))) + min 1 (occurrences c (joined (data_in s) (run 0 (roots s)))) in
      let p = or-false (ltb 1 A) (not (all (λ t. leb (occurrences c (root_refs s t)) 1) (run 0 (roots s)))) h in
      record {
        roles = ltb-false 1 A p.0;
        trees = λ t l. leb-true (occurrences c (root_refs s t)) 1 (all-run (λ u. leb (occurrences c (root_refs s u)) 1) (roots s) 0 (not-false _ p.1) t zero-le (omega arith));
      }

  pub not-shared : Unshared s c → shared_at s c ≡ false
  unfolding shared_at shared_by
  not-shared u =
      false-or _ _ (le-ltb 1 _ u.roles)
      (ap not (run-all (λ t. leb (occurrences c (root_refs s t)) 1) (roots s) 0 (λ t a b. le-leb (occurrences c (root_refs s t)) 1 (u.trees t (omega arith)))))

-- ---- the marks
-- with the figure r of its place
right-own : (s fs : List ℕ) (e r : ℕ) → right_mark s fs e ≡ true → place e ≢ 0 → get_or fs (place e / cluster_size s) 0 ≡ r → Right (e / 2 ^ 63) r
unfolding right_mark alone
right-own s fs e r h d q = go (two_ways (eqb r 1)) (rw (ne_eqb (place e) 0 d, q) at h)
  where
    go : (eqb r 1 ≡ true) ⊎ (eqb r 1 ≡ false) → (if eqb r 1 then eqb (e / 2 ^ 63) 1 else not (eqb (e / 2 ^ 63) 1)) ≡ true → Right (e / 2 ^ 63) r
    go (inl y) h = let a : eqb (e / 2 ^ 63) 1 ≡ true = rw y at h in ((λ z. eqb-true _ _ y), (λ z. eqb-true _ _ a))
    go (inr y) h =
        let a : not (eqb (e / 2 ^ 63) 1) ≡ true = rw y at h in
        ((λ z. absurd (eqb-false _ _ (not-true _ a) z)), (λ z. absurd (eqb-false _ _ y z)))

own-right : (s fs : List ℕ) (e r : ℕ) → (place e ≢ 0 → (get_or fs (place e / cluster_size s) 0 ≡ r) × Right (e / 2 ^ 63) r) → right_mark s fs e ≡ true
unfolding right_mark alone
own-right s fs e r h = go (two_ways (eqb (place e) 0))
  where
    last : get_or fs (place e / cluster_size s) 0 ≡ r → Right (e / 2 ^ 63) r → (eqb r 1 ≡ true) ⊎ (eqb r 1 ≡ false)
        → (if eqb (get_or fs (place e / cluster_size s) 0) 1 then eqb (e / 2 ^ 63) 1 else not (eqb (e / 2 ^ 63) 1)) ≡ true
    last q g (inl y) = rw (q, y) (eq-eqb _ _ (g.1 (eqb-true _ _ y)))
    last q g (inr y) = rw (q, y) (ap not (ne_eqb _ _ (λ z. eqb-false _ _ y (g.0 z))))

    go : (eqb (place e) 0 ≡ true) ⊎ (eqb (place e) 0 ≡ false)
        → (eqb (place e) 0 || (if eqb (get_or fs (place e / cluster_size s) 0) 1 then eqb (e / 2 ^ 63) 1 else not (eqb (e / 2 ^ 63) 1))) ≡ true
    go (inl z) = rw z refl
    go (inr z) = let k = h (eqb-false _ _ z) in rw z (last k.0 k.1 (two_ways (eqb r 1)))

-- ---- the counts against the figures fs
module _ (s fs : List ℕ) where
  abbrev shared : ℕ
  shared = first (shared_at s) 0 (clusters s)

  abbrev low : ℕ
  low = first (short s fs) 0 (clusters s)

  abbrev leaks : ℕ
  leaks = count (over s fs) 0 (clusters s)

  abbrev last : Verdict
  last = if ltb 0 leaks then Leaks leaks else IsSound

  abbrev marks : Verdict
  marks = l1_verdict s (wrong_marks s fs) 0 (l1_entries s 0) last

  mark_ill : Ill (wrong_marks s fs)
  unfolding wrong_marks Healthy
  mark_ill = record { one = λ i z. z; two = λ i j z. z }

  marks-good : Healthy marks → RootOk s (wrong_marks s fs) 0 × Healthy last
  unfolding l1_entries
  marks-good h = l1_good s (wrong_marks s fs) mark_ill last (root_size s 0) 0 (drop (root_at s 0) s) h

  counts-good : Healthy (counts_verdict s fs) → (ltb shared (clusters s) ≡ false) × ((ltb low (clusters s) ≡ false) × RootOk s (wrong_marks s fs) 0)
  unfolding counts_verdict Healthy
  counts-good h =
      let a = past (ltb shared (clusters s)) (Shared shared) (if ltb low (clusters s) then Short low else marks) (λ z. z) h in
      let b = past (ltb low (clusters s)) (Short low) marks (λ z. z) a.1 in
      (a.0, (b.0, (marks-good b.1).0))

  single : ltb shared (clusters s) ≡ false → (k : ℕ) → k < clusters s → Unshared s k
  single h k l = unshared s k (first_passed (shared_at s) 0 (clusters s) k (omega (arith, ltb-false shared (clusters s) h)) zero-le (omega arith))

  covered : ltb low (clusters s) ≡ false → (k : ℕ) → k < clusters s → get_or fs k 0 ≤ count_of s k
  unfolding short
  covered h k l = ltb-false _ _ (first_passed (short s fs) 0 (clusters s) k (omega (arith, ltb-false low (clusters s) h)) zero-le (omega arith))

  counts-last : ((k : ℕ) → k < clusters s → Unshared s k) → ((k : ℕ) → k < clusters s → get_or fs k 0 ≤ count_of s k) → RootOk s (wrong_marks s fs) 0 → counts_verdict s fs ≡ last
  unfolding counts_verdict short l1_entries
  counts-last a b c =
      if_no (ltb shared (clusters s)) _ _ (le-ltb shared (clusters s) (omega (arith, first-false (shared_at s) 0 (clusters s) (λ x l m. not-shared s x (a x (omega arith))))))
      ∙ if_no (ltb low (clusters s)) _ _ (le-ltb low (clusters s) (omega (arith, first-false (short s fs) 0 (clusters s) (λ x l m. le-ltb _ _ (b x (omega arith))))))
      ∙ l1_pass s (wrong_marks s fs) last (root_size s 0) 0 (drop (root_at s 0) s) c

  last-healthy : Healthy last
  unfolding Healthy
  last-healthy = go (ltb 0 leaks)
    where
      go : (b : Bool) → Healthy (if b then Leaks leaks else IsSound)
      go true = tt
      go false = tt

  last_exact : last ≡ IsSound → (k : ℕ) → k < clusters s → count_of s k ≤ get_or fs k 0
  unfolding over
  last_exact h k l = ltb-false _ _ (count-zero (over s fs) 0 (clusters s) (go (two_ways (ltb 0 leaks))) k zero-le (omega arith))
    where
      go : (ltb 0 leaks ≡ true) ⊎ (ltb 0 leaks ≡ false) → leaks ≡ 0
      go (inl e) = let q : Leaks leaks ≡ IsSound = sym (if_yes (ltb 0 leaks) (Leaks leaks) IsSound e) ∙ h in absurd (let z : ◌≡◌ {A = ℕ} 0 1 = cc in omega arith)
      go (inr e) = omega (arith, ltb-false 0 leaks e)

  exact_last : ((k : ℕ) → k < clusters s → count_of s k ≡ get_or fs k 0) → last ≡ IsSound
  unfolding over
  exact_last h =
      if_no (ltb 0 leaks) (Leaks leaks) IsSound
      (le-ltb 0 leaks (omega (arith, count-false (over s fs) 0 (clusters s) (λ x l m. le-ltb (get_or fs x 0) (count_of s x) (omega (arith, h x (omega arith)))))))

-- cluster k's figure
pub figure_is : (s : List ℕ) (k : ℕ) → k < clusters s → get_or (figures_of s) k 0 ≡ min most_figure (occurrences k (references s))
unfolding figures_of
figure_is s k l = figures-at most_figure (references s) 0 (clusters s) k l ∙ ap (λ (x : ℕ). min most_figure (occurrences x (references s))) (zero-add k)

-- where nothing is shared there are few references
few_refs : (s : List ℕ) → Facts s → (c : ℕ) → Unshared s c → occurrences c (references s) ≤ most_figure
unfolding references roots
few_refs s f c u =
    omega (
      arith,
      occ_append c (fixed_refs s) (joined (root_refs s) (run 0 (roots s))),
      few-joined c (root_refs s) (roots s) 0 (λ t a b. u.trees t (omega arith)),
      u.roles,
      f.some,
    )

pub nr_back : (i : ℕ) → nr (i / most_l1) (i % most_l1) ≡ i
nr_back i = omega arith

module _ (s : List ℕ) (f : Facts s) where
  abbrev m : ℕ → ℕ → ℕ
  m = mem (cluster_size s) s

  -- an L1 entry that passes, in the machinery's terms and back
  module _ (w : Seek) where
    entry_here : (t r : ℕ) → t < roots s → r < root_size s t → EntryOk s w (be64 (drop (root_at s t) s) (8 * r)) → EntryOk s w (l1 (geo s) m (nr t r))
    entry_here t r h l = subst (EntryOk s w) (be64-drop s (root_at s t) (8 * r) ∙ sym (l1_at_lem s f s t r h l))

    entry-there : (t r : ℕ) → t < roots s → r < root_size s t → EntryOk s w (l1 (geo s) m (nr t r)) → EntryOk s w (be64 (drop (root_at s t) s) (8 * r))
    entry-there t r h l = subst (EntryOk s w) (l1_at_lem s f s t r h l ∙ sym (be64-drop s (root_at s t) (8 * r)))

    module _ (i : ℕ) (g : good_l1 (cluster_size s) (length s) (l1 (geo s) m i) ≡ true) where
      below_at_lem : (j : ℕ) → j < per_table s → be64 (part s (place (l1 (geo s) m i)) (cluster_size s)) (8 * j) ≡ l2 (geo s) m (tab (geo s) (code s) m i) j
      unfolding tab
      below_at_lem j n =
          part8 s (place (l1 (geo s) m i)) (cluster_size s) (8 * j) (omega (arith, c_8 s f))
          ∙ ap (λ (y : ℕ). be64 s (y + 8 * j)) (sym (div_back (cluster_size s) (place (l1 (geo s) m i)) (placed1 s f (l1 (geo s) m i) g).whole))
          ∙ sym (l2_at s f s (place (l1 (geo s) m i) / cluster_size s) j)

      below_here : EntryOk s w (l1 (geo s) m i) → (j : ℕ) → j < per_table s → tab (geo s) (code s) m i ≢ 0 → w.good2 (l2 (geo s) m (tab (geo s) (code s) m i) j) ≡ true
      unfolding tab
      below_here k j n d =
          subst (λ (x : ℕ). w.good2 x ≡ true) (below_at_lem j n) (k.below (λ z. d (ap (λ (y : ℕ). y / cluster_size s) z ∙ zero-div (cluster_size s))) j n)

      below-there : w.good1 (l1 (geo s) m i) ≡ true → ((j : ℕ) → j < per_table s → tab (geo s) (code s) m i ≢ 0 → w.good2 (l2 (geo s) m (tab (geo s) (code s) m i) j) ≡ true)
          → EntryOk s w (l1 (geo s) m i)
      unfolding tab
      below-there o h = record {
        own = o;
        below = λ d j n. subst (λ (x : ℕ). w.good2 x ≡ true) (sym (below_at_lem j n))
            (h j n (λ z. d (div_none (cluster_size s) (place (l1 (geo s) m i)) (placed1 s f (l1 (geo s) m i) g).whole z)));
      }

  tree_of : (i : ℕ) → i < roots s * most_l1 → i / most_l1 < roots s
  tree_of i l = omega arith

  -- what holds of the numbers of entries, and of the others
  by_number : (P : ℕ → Type 0) → ((t r : ℕ) → t < roots s → r < root_size s t → P (nr t r)) → ((t r : ℕ) → t < roots s → r < most_l1 → l1 (geo s) m (nr t r) ≡ 0 → P (nr t r))
      → (i : ℕ) → i < roots s * most_l1 → P i
  by_number P a b i l = subst P (nr_back i) (go (dec_lt (i % most_l1) (root_size s (i / most_l1))))
    where
      r_m : i % most_l1 < most_l1
      r_m = omega arith

      go : Dec (i % most_l1 < root_size s (i / most_l1)) → P (nr (i / most_l1) (i % most_l1))
      go (yes h) = a (i / most_l1) (i % most_l1) (tree_of i l) h
      go (no n) = b (i / most_l1) (i % most_l1) (tree_of i l) r_m (l1_absent s f s (i / most_l1) (i % most_l1) (tree_of i l) r_m (omega arith))

  tab_0 : (i : ℕ) → l1 (geo s) m i ≡ 0 → tab (geo s) (code s) m i ≡ 0
  unfolding tab
  tab_0 i e = ap (λ (x : ℕ). place x / cluster_size s) e ∙ (geo_ok s f).laws.zero_clus

  module _ (h : (t : ℕ) → t < roots s → RootOk s (bad_in s t) t) where
    good-one : (t r : ℕ) → t < roots s → r < root_size s t → good_l1 (cluster_size s) (length s) (l1 (geo s) m (nr t r)) ≡ true
    unfolding bad_in
    good-one t r a b = (entry_here (bad_in s t) t r a b (h t a r b)).own

    goods_1 : (i : ℕ) → i < roots s * most_l1 → good_l1 (cluster_size s) (length s) (l1 (geo s) m i) ≡ true
    goods_1 = by_number (λ (i : ℕ). good_l1 (cluster_size s) (length s) (l1 (geo s) m i) ≡ true) good-one (λ t r a b z. rw z (geo_ok s f).laws.zero-good1)

    goods_2 : (i : ℕ) → i < roots s * most_l1 → (j : ℕ) → j < per_table s → tab (geo s) (code s) m i ≢ 0 → good_l2 (version s) (cluster_size s) (length s) (l2 (geo s) m (tab (geo s) (code s) m i) j) ≡ true
    unfolding bad_in
    goods_2 = by_number (λ (i : ℕ). (j : ℕ) → j < per_table s → tab (geo s) (code s) m i ≢ 0 → good_l2 (version s) (cluster_size s) (length s) (l2 (geo s) m (tab (geo s) (code s) m i) j) ≡ true)
        (λ t r a b. below_here (bad_in s t) (nr t r) (good-one t r a b) (entry_here (bad_in s t) t r a b (h t a r b)))
        (λ t r a b z j n d. absurd (d (tab_0 (nr t r) z)))

  roots_ok : Sound (geo s) (code s) m → (t : ℕ) → t < roots s → RootOk s (bad_in s t) t
  unfolding bad_in
  roots_ok k t h x l =
      let i : nr t x < roots s * most_l1 = omega (arith, root-few s f t h) in
      entry-there (bad_in s t) t x h l (below-there (bad_in s t) (nr t x) (k.goods1 (nr t x) i) (k.goods1 (nr t x) i) (λ j n d. k.goods2 (nr t x) j i n d))

  pub refs_own : Sound (geo s) (code s) m → (c : ℕ) → occurrences c (references s) ≡ refs_of (geo s) (code s) m c
  refs_own k c = refs_eq s f k.goods1 k.goods2 c

  -- number i of the active table is the i-th entry's
  active_0 : (i : ℕ) → nr 0 i ≡ i
  active_0 i = omega arith

  some-root : 0 < roots s
  some-root = omega (arith, root-count s f)

  module _ (h1 : (i : ℕ) → i < roots s * most_l1 → good_l1 (cluster_size s) (length s) (l1 (geo s) m i) ≡ true)
      (h2 : (i : ℕ) → i < roots s * most_l1 → (j : ℕ) → j < per_table s → tab (geo s) (code s) m i ≢ 0 → good_l2 (version s) (cluster_size s) (length s) (l2 (geo s) m (tab (geo s) (code s) m i) j) ≡ true)
      (fig : (c : ℕ) → c < clusters s → get_or (figures_of s) c 0 ≡ refs_of (geo s) (code s) m c) where
    abbrev marks_of : Seek
    marks_of = wrong_marks s (figures_of s)

    -- the entry of a number of the active table, with its mark
    marked : RootOk s marks_of 0 → (i : ℕ) → i < most_l1 → tab (geo s) (code s) m i ≢ 0 → EntryOk s marks_of (l1 (geo s) m i)
    marked h i l d = go (dec_lt i (root_size s 0))
      where
        go : Dec (i < root_size s 0) → EntryOk s marks_of (l1 (geo s) m i)
        go (yes b) = subst (λ (x : ℕ). EntryOk s marks_of (l1 (geo s) m x)) (active_0 i) (entry_here marks_of 0 i some-root b (h i b))
        go (no n) = absurd (d (tab_0 i (subst (λ (x : ℕ). l1 (geo s) m x ≡ 0) (active_0 i) (l1_absent s f s 0 i some-root l (omega arith)))))

    marks-1 : RootOk s marks_of 0 → (i : ℕ) → i < roots s * most_l1 → i < most_l1 → tab (geo s) (code s) m i ≢ 0 → Right (l1 (geo s) m i / 2 ^ 63) (refs_of (geo s) (code s) m (tab (geo s) (code s) m i))
    unfolding wrong_marks tab
    marks-1 h i l n d =
        right-own s (figures_of s) (l1 (geo s) m i) _ (marked h i n d).own (λ z. d (ap (λ (y : ℕ). y / cluster_size s) z ∙ zero-div (cluster_size s)))
        (fig (tab (geo s) (code s) m i) ((geo_ok s f).laws.in1 (l1 (geo s) m i) (h1 i l)))

    marks-2 : RootOk s marks_of 0 → (i j : ℕ) → i < roots s * most_l1 → i < most_l1 → j < per_table s → dat (geo s) (code s) m i j ≢ 0
        → Right (l2 (geo s) m (tab (geo s) (code s) m i) j / 2 ^ 63) (refs_of (geo s) (code s) m (dat (geo s) (code s) m i j))
    unfolding wrong_marks
    marks-2 h i j l n k d =
        let z : tab (geo s) (code s) m i ≢ 0 = λ y. d (dat_none (geo s) (code s) m i j y) in
        let q : dat (geo s) (code s) m i j ≡ place (l2 (geo s) m (tab (geo s) (code s) m i) j) / cluster_size s = dat_some (geo s) (code s) m i j z in
        rw q
        (right-own s (figures_of s) (l2 (geo s) m (tab (geo s) (code s) m i) j) _ (below_here marks_of i (h1 i l) (marked h i n z) j k z)
        (λ y. d (q ∙ ap (λ (x : ℕ). x / cluster_size s) y ∙ zero-div (cluster_size s)))
        (fig (place (l2 (geo s) m (tab (geo s) (code s) m i) j) / cluster_size s) ((geo_ok s f).laws.in2 (l2 (geo s) m (tab (geo s) (code s) m i) j) (h2 i l j k z))))

  pub healthy-sound : Bytes s → Healthy (verdict s) → Sound (geo s) (code s) m
  unfolding verdict
  healthy-sound by h =
      let p = roots-good s (counts_verdict s (figures_of s)) (roots s) 0 h in
      let q = counts-good s (figures_of s) p.1 in
      let g : (t : ℕ) → t < roots s → RootOk s (bad_in s t) t = λ t l. p.0 t zero-le (omega arith) in
      let g1 = goods_1 g in
      let g2 : (i j : ℕ) → i < roots s * most_l1 → j < per_table s → tab (geo s) (code s) m i ≢ 0 → good_l2 (version s) (cluster_size s) (length s) (l2 (geo s) m (tab (geo s) (code s) m i) j) ≡ true = λ i j l n d. goods_2 g i l j n d in
      let u : (c : ℕ) → c < clusters s → Unshared s c = single s (figures_of s) q.0 in
      let fig : (c : ℕ) → c < clusters s → get_or (figures_of s) c 0 ≡ refs_of (geo s) (code s) m c = λ c l. omega (arith, figure_is s c l, refs_eq s f g1 g2 c, few_refs s f c (u c l)) in
      record {
        bytes = λ k x. by (k * cluster_size s + x);
        blkin = λ k l. blocks_in k l;
        goods1 = g1;
        goods2 = g2;
        inv = record {
          fixed = λ c l o. omega (arith, refs_is (roots s * most_l1) (per_table s) (fix (geo s) m) (tab (geo s) (code s) m) (dat (geo s) (code s) m) c, (u c l).roles, fixed_eq s f g1 g2 c, tabs_eq s f g1 g2 c, dats_eq s f g1 g2 c);
          roles = λ c l. role c (ℕ_discrete (tabs (roots s * most_l1) (tab (geo s) (code s) m) c) 0) (λ d. omega (arith, (u c l).roles, tabs_eq s f g1 g2 c, dats_eq s f g1 g2 c));
          once = λ τ c l. tree τ c (dec_lt τ (roots s)) (λ b. omega (arith, (u c l).trees τ b, tree_eq s f g1 g2 c τ b)) (λ b. omega (arith, tree_none s f g1 g2 c τ b));
          covered = λ c l. omega (arith, fig c l, cnt_own s f c l, covered s (figures_of s) q.1.0 c l);
        };
        mark1 = marks-1 g1 (goods_2 g) fig q.1.1;
        mark2 = marks-2 g1 (goods_2 g) fig q.1.1;
      }
    where
      blocks_in : (k : ℕ) → k < blocks s → blk (geo s) m k < clusters s
      blocks_in k l = rw (blk_own s f k) ((div-lt_iff_lt-mul (c_pos s f)).1 (omega (arith, (block_named s f k l).1.1, n_whole s f, c_pos s f)))

      T : ℕ → ℕ
      T c = tabs (roots s * most_l1) (tab (geo s) (code s) m) c

      D : ℕ → ℕ
      D c = dats (roots s * most_l1) (per_table s) (dat (geo s) (code s) m) c

      role : (c : ℕ) → Dec (T c ≡ 0) → (T c ≢ 0 → D c ≡ 0) → (T c ≡ 0) ⊎ (D c ≡ 0)
      role c (yes e) r = inl e
      role c (no d) r = inr (r d)

      R : ℕ → ℕ → ℕ
      R τ c = tree_refs (roots s * most_l1) (per_table s) (λ i. i / most_l1) (tab (geo s) (code s) m) (dat (geo s) (code s) m) τ c

      tree : (τ c : ℕ) → Dec (τ < roots s) → (τ < roots s → R τ c ≤ 1) → (roots s ≤ τ → R τ c ≤ 1) → R τ c ≤ 1
      tree τ c (yes b) a z = a b
      tree τ c (no b) a z = z (omega arith)

  -- where all is sound, nothing is shared and a figure is the number of references
  sound_unshared : Sound (geo s) (code s) m → (c : ℕ) → c < clusters s → Unshared s c
  sound_unshared k c l =
      record {
        roles = go (dec_lt 0 (fix (geo s) m c)) (k.inv.roles c l);
        trees = λ t b. omega (arith, tree_eq s f k.goods1 k.goods2 c t b, k.inv.once t c l);
      }
    where
      F : occurrences c (fixed_refs s) ≡ fix (geo s) m c
      F = fixed_eq s f k.goods1 k.goods2 c

      T : occurrences c (joined (tables_in s) (run 0 (roots s))) ≡ tabs (roots s * most_l1) (tab (geo s) (code s) m) c
      T = tabs_eq s f k.goods1 k.goods2 c

      D : occurrences c (joined (data_in s) (run 0 (roots s))) ≡ dats (roots s * most_l1) (per_table s) (dat (geo s) (code s) m) c
      D = dats_eq s f k.goods1 k.goods2 c

      go : Dec (0 < fix (geo s) m c) → (tabs (roots s * most_l1) (tab (geo s) (code s) m) c ≡ 0) ⊎ (dats (roots s * most_l1) (per_table s) (dat (geo s) (code s) m) c ≡ 0)
          → occurrences c (fixed_refs s) + min 1 (occurrences c (joined (tables_in s) (run 0 (roots s)))) + min 1 (occurrences c (joined (data_in s) (run 0 (roots s)))) ≤ 1
      go (yes h) r = omega (arith, F, T, D, k.inv.fixed c l h, refs_is (roots s * most_l1) (per_table s) (fix (geo s) m) (tab (geo s) (code s) m) (dat (geo s) (code s) m) c)
      go (no h) (inl e) = omega (arith, F, T, D, e)
      go (no h) (inr e) = omega (arith, F, T, D, e)

  pub figure_own : Sound (geo s) (code s) m → (c : ℕ) → c < clusters s → get_or (figures_of s) c 0 ≡ refs_of (geo s) (code s) m c
  figure_own k c l = omega (arith, figure_is s c l, refs_own k c, few_refs s f c (sound_unshared k c l))

  marked-1 : Sound (geo s) (code s) m → (i : ℕ) → i < roots s * most_l1 → i < most_l1 → place (l1 (geo s) m i) / cluster_size s ≢ 0
      → Right (l1 (geo s) m i / 2 ^ 63) (refs_of (geo s) (code s) m (place (l1 (geo s) m i) / cluster_size s))
  unfolding tab
  marked-1 k i a b d = k.mark1 i a b d

  marks_ok : Sound (geo s) (code s) m → RootOk s (wrong_marks s (figures_of s)) 0
  unfolding wrong_marks
  marks_ok k x l =
      let n : x < most_l1 = omega (arith, root-few s f 0 some-root) in
      let i : nr 0 x < roots s * most_l1 = omega (arith, some-root) in
      let j : nr 0 x < most_l1 = omega arith in
      entry-there (wrong_marks s (figures_of s)) 0 x some-root l
      (below-there (wrong_marks s (figures_of s)) (nr 0 x) (k.goods1 (nr 0 x) i)
      (own-right s (figures_of s) (l1 (geo s) m (nr 0 x)) _ (λ d. one (nr 0 x) i j d))
      (λ y b d. own-right s (figures_of s) (l2 (geo s) m (tab (geo s) (code s) m (nr 0 x)) y) _ (λ z. two (nr 0 x) y i j b d z)))
    where
      one : (i : ℕ) → i < roots s * most_l1 → i < most_l1 → place (l1 (geo s) m i) ≢ 0
          → (get_or (figures_of s) (place (l1 (geo s) m i) / cluster_size s) 0 ≡ refs_of (geo s) (code s) m (place (l1 (geo s) m i) / cluster_size s))
          × Right (l1 (geo s) m i / 2 ^ 63) (refs_of (geo s) (code s) m (place (l1 (geo s) m i) / cluster_size s))
      one i a b d =
          (figure_own k _ ((geo_ok s f).laws.in1 (l1 (geo s) m i) (k.goods1 i a)), marked-1 k i a b (λ z. d (div_none (cluster_size s) (place (l1 (geo s) m i)) (placed1 s f (l1 (geo s) m i) (k.goods1 i a)).whole z)))

      two : (i j : ℕ) → i < roots s * most_l1 → i < most_l1 → j < per_table s → tab (geo s) (code s) m i ≢ 0 → place (l2 (geo s) m (tab (geo s) (code s) m i) j) ≢ 0
          → (get_or (figures_of s) (place (l2 (geo s) m (tab (geo s) (code s) m i) j) / cluster_size s) 0 ≡ refs_of (geo s) (code s) m (place (l2 (geo s) m (tab (geo s) (code s) m i) j) / cluster_size s))
          × Right (l2 (geo s) m (tab (geo s) (code s) m i) j / 2 ^ 63) (refs_of (geo s) (code s) m (place (l2 (geo s) m (tab (geo s) (code s) m i) j) / cluster_size s))
      two i j a b n d z =
          let e = l2 (geo s) m (tab (geo s) (code s) m i) j in
          let g = k.goods2 i j a n d in
          let q : dat (geo s) (code s) m i j ≡ place (l2 (geo s) m (tab (geo s) (code s) m i) j) / cluster_size s = dat_some (geo s) (code s) m i j d in (
            figure_own k _ ((geo_ok s f).laws.in2 (l2 (geo s) m (tab (geo s) (code s) m i) j) g),
            subst (λ (y : ℕ). Right (l2 (geo s) m (tab (geo s) (code s) m i) j / 2 ^ 63) (refs_of (geo s) (code s) m y)) q
                (k.mark2 i j a b n (λ y. z (div_none (cluster_size s) (place (l2 (geo s) m (tab (geo s) (code s) m i) j)) (placed2 s f (l2 (geo s) m (tab (geo s) (code s) m i) j) g).whole (sym q ∙ y)))),
          )

  verdict-last : Sound (geo s) (code s) m → verdict s ≡ last s (figures_of s)
  unfolding verdict
  verdict-last k =
      roots_pass s (counts_verdict s (figures_of s)) (roots s) 0 (λ t a b. roots_ok k t (omega arith))
      ∙ counts-last s (figures_of s) (sound_unshared k)
      (λ c l. rw (figure_own k c l, ← cnt_own s f c l) (k.inv.covered c l)) (marks_ok k)

  pub sound-healthy : Sound (geo s) (code s) m → Healthy (verdict s)
  sound-healthy k = rw (verdict-last k) (last-healthy s (figures_of s))

  pub exact_sound : Sound (geo s) (code s) m → ((c : ℕ) → c < clusters s → count_of s c ≡ occurrences c (references s)) → verdict s ≡ IsSound
  exact_sound k h = verdict-last k ∙ exact_last s (figures_of s) (λ c l. h c l ∙ refs_own k c ∙ sym (figure_own k c l))

  pub sound_exact : Sound (geo s) (code s) m → verdict s ≡ IsSound → (c : ℕ) → c < clusters s → count_of s c ≡ occurrences c (references s)
  sound_exact k h c l =
      omega (arith, last_exact s (figures_of s) (sym (verdict-last k) ∙ h) c l, figure_own k c l, refs_own k c, cnt_own s f c l, k.inv.covered c l)
