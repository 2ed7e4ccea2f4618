-- The references of a cluster, counted in the definitions' list, are the machinery's sum, where every entry is good. Assumes nothing.
use Rattle.std.specs.Prelude.{if◌then◌else◌}
use Prim.Native.Nat.{ℕ, zero, suc, ◌+◌, ◌-◌, ◌*◌, ◌/◌, ◌%◌, ◌≤◌, ◌<◌}
use native.Mathlib.Nat.{div-add-mod', zero-mul, zero-add, add-zero, zero-div, le_refl}
use native.Mathlib.Decide.{ℕ_discrete}
use native.Mathlib.Omega.{arith}
use mathlib.Core.Path.{◌≡◌, refl, sym, ap, ap₂, ◌∙◌}
use mathlib.Core.Logic.{◌≢◌}
use mathlib.Core.Bool.{true, not}
use mathlib.Core.List.{List, [], ◌∷◌, ◌++◌}
use lib.Dec.{eqb}
use lib.ListN.{length, take, drop}
use borrow.Author.Tests.{eqb-true, eqb-false, eq-eqb, ne_eqb, lt-ltb, le-ltb}
use Rattle.cuts.proofs.Sum.{sum_to, sum_cong, sum-zero, sum_split, sum-short, sum_one}
use Rattle.cuts.proofs.Refs.{when_yes, hit, hit_zero, refs, tabs, dats, within, within-is, within-not, tree_refs}
use Rattle.cuts.proofs.Cell.{mem}
use Rattle.cuts.proofs.Meta.{same, blk, tree, l1, l2, rooted, fix, tab, dat, refs_of, dat_none, dat_some}
use Rattle.choice.specs.Pick.{ceil_div}
use Rattle.endian.specs.Big.{be64, part, entries}
use Rattle.endian.proofs.Entries.{be64-drop, take-entries}
use Rattle.qcow2_spec.specs.Header.{most_l1, version, cluster_size, table_at, table_clusters, blocks, per_table, table, block_at, snapshots, snapshots_at, snapshot_at, roots, root_size, root_at}
use Rattle.qcow2_spec.specs.Entries.{place, good_l1, good_l2}
use Rattle.tally.specs.Tally.{run, joined, occurrences}
use Rattle.tally.proofs.Occurs.{occ_append}
use Rattle.qcow2_spec.specs.References.{l1_entries, l2_entries, named, l2_refs, table_refs, l1_refs, root_run, snapshot_run, fixed_refs, root_refs, tables_in, data_in, references}
use Rattle.choice.proofs.Tests.{if_yes, if_no, if_elim}
use Rattle.qcow2_spec.proofs.Numbers.{part8}
use Rattle.qcow2_spec.proofs.Facts.{Facts, Placed, placed, good_place1, good_place2, c_8, c_pos, c_in, block_named, root-few}
use Rattle.qcow2_spec.proofs.Geo.{start_of, span_of, nr, geo, code, geo_ok}
use Rattle.qcow2_spec.proofs.Kept.{nr_tree, l1_at_lem, l1_absent, l2_at, blk_own}

-- ---- sums
pub sum-front : (n : ℕ) (f : ℕ → ℕ) → sum_to (suc n) f ≡ f 0 + sum_to n (λ i. f (suc i))
unfolding sum_to
sum-front zero f = omega arith
sum-front (suc n) f = omega (arith, sum-front n f)

-- ---- occurrences
occ_four : (c : ℕ) (A B P Q : List ℕ) → occurrences c (A ++ B ++ P ++ Q) ≡ occurrences c A + occurrences c B + occurrences c P + occurrences c Q
occ_four c A B P Q = omega (arith, occ_append c (A ++ B ++ P) Q, occ_append c (A ++ B) P, occ_append c A B)

one : (c x : ℕ) → (if eqb x c then 1 else 0) ≡ same c x
unfolding same when_yes
one c x = go (ℕ_discrete c x)
  where
    go : (d : Dec (c ≡ x)) → (if eqb x c then 1 else 0) ≡ when_yes d 1
    go (yes e) = if_yes (eqb x c) 1 0 (eq-eqb x c (sym e))
    go (no n) = if_no (eqb x c) 1 0 (ne_eqb x c (λ e. n (sym e)))

same_hit : (c p : ℕ) → p ≢ 0 → same c p ≡ hit c p
unfolding same hit
same_hit c zero d = absurd (d refl)
same_hit c (suc p) d = refl

occ_one : (c x : ℕ) → occurrences c (x ∷ []) ≡ same c x
unfolding occurrences
occ_one c x = omega (arith, one c x)

occ_run : (c i k : ℕ) → occurrences c (run i k) ≡ sum_to k (λ j. same c (i + j))
unfolding run occurrences sum_to
occ_run c i zero = refl
occ_run c i (suc k) =
    let a : sum_to k (λ j. same c (suc i + j)) ≡ sum_to k (λ j. same c (i + suc j)) = sum_cong k _ _ (λ j l. ap (same c) (omega arith)) in
    let z : same c (i + 0) ≡ same c i = ap (same c) (add-zero i) in
    omega (arith, one c i, occ_run c (suc i) k, sum-front k (λ j. same c (i + j)))

occ_entries : (c : ℕ) (f : ℕ → List ℕ) (k : ℕ) (t : List ℕ) → occurrences c (joined f (entries k t)) ≡ sum_to k (λ i. occurrences c (f (be64 t (8 * i))))
unfolding occurrences sum_to entries
occ_entries c f zero t = refl
occ_entries c f (suc k) t =
    let a : sum_to k (λ i. occurrences c (f (be64 (drop 8 t) (8 * i)))) ≡ sum_to k (λ i. occurrences c (f (be64 t (8 * suc i)))) =
    sum_cong k _ _ (λ i l. ap (λ (x : ℕ). occurrences c (f x)) (be64-drop t 8 (8 * i) ∙ ap (λ (n : ℕ). be64 t n) (omega arith))) in
    occ_append c (f (be64 t 0)) (joined f (entries k (drop 8 t)))
    ∙ omega (arith, occ_entries c f k (drop 8 t), sum-front k (λ i. occurrences c (f (be64 t (8 * i)))))

occ_none : (c : ℕ) → occurrences c [] ≡ 0
unfolding occurrences
occ_none c = refl

-- f of each of the k numbers from i on
occ_numbers : (c : ℕ) (f : ℕ → List ℕ) (i k : ℕ) → occurrences c (joined f (run i k)) ≡ sum_to k (λ j. occurrences c (f (i + j)))
unfolding run occurrences sum_to
occ_numbers c f i zero = refl
occ_numbers c f i (suc k) =
    let a : sum_to k (λ j. occurrences c (f (suc i + j))) ≡ sum_to k (λ j. occurrences c (f (i + suc j))) = sum_cong k _ _ (λ j l. ap (λ (x : ℕ). occurrences c (f x)) (omega arith)) in
    let z : occurrences c (f (i + 0)) ≡ occurrences c (f i) = ap (λ (x : ℕ). occurrences c (f x)) (add-zero i) in
    omega (arith, occ_append c (f i) (joined f (run (suc i) k)), occ_numbers c f (suc i) k, sum-front k (λ j. occurrences c (f (i + j))))

-- the lists of f are those of g and h together
occ_split : (c : ℕ) (f g h : ℕ → List ℕ) → ((x : ℕ) → occurrences c (f x) ≡ occurrences c (g x) + occurrences c (h x))
    → (xs : List ℕ) → occurrences c (joined f xs) ≡ occurrences c (joined g xs) + occurrences c (joined h xs)
unfolding occurrences
occ_split c f g h e [] = refl
occ_split c f g h e (x ∷ xs) = omega (arith, e x, occ_split c f g h e xs, occ_append c (f x) (joined f xs), occ_append c (g x) (joined g xs), occ_append c (h x) (joined h xs))

occ_first : (c : ℕ) (l : List ℕ) → occurrences c l ≡ occurrences c (take 1 l) + occurrences c (drop 1 l)
unfolding occurrences
occ_first c [] = refl
occ_first c (x ∷ l) = omega arith

-- an L1 table's references, as L2 tables and as data
pub occ_both : (s : List ℕ) (t c : ℕ) → occurrences c (root_refs s t) ≡ occurrences c (tables_in s t) + occurrences c (data_in s t)
unfolding root_refs tables_in data_in
occ_both s t c = occ_split c (l1_refs s) (λ e. take 1 (l1_refs s e)) (λ e. drop 1 (l1_refs s e)) (λ e. occ_first c (l1_refs s e)) (l1_entries s t)

-- the clusters of the L1 tables, and of the snapshot table
occ_roots : (s : List ℕ) (c : ℕ) → occurrences c (joined (root_run s) (run 0 (roots s))) ≡ sum_to (roots s) (λ t. sum_to (span_of s t) (λ k. same c (start_of s t + k)))
unfolding root_run
occ_roots s c =
    occ_numbers c (root_run s) 0 (roots s)
    ∙ sum_cong (roots s) _ _ (λ t l. rw (zero-add, lt-ltb t (roots s) l) (occ_run c (root_at s t / cluster_size s) (ceil_div (8 * root_size s t) (cluster_size s))))

occ_shots : (s : List ℕ) (c : ℕ) → occurrences c (snapshot_run s) ≡ sum_to (span_of s (roots s)) (λ k. same c (start_of s (roots s) + k))
unfolding snapshot_run
occ_shots s c =
    rw (le-ltb (roots s) (roots s) (le_refl (roots s))) (occ_run c (snapshots_at s / cluster_size s) (ceil_div (snapshot_at s (snapshots s) - snapshots_at s) (cluster_size s)))

-- a place that is 0 or a multiple of C
div_some : (C p : ℕ) → p % C ≡ 0 → p ≢ 0 → p / C ≢ 0
div_some C p z d e = d (sym (div-add-mod' p C) ∙ ap₂ (λ (x y : ℕ). x * C + y) e z ∙ ap (λ (x : ℕ). x + 0) (zero-mul C))

pub div_back : (C p : ℕ) → p % C ≡ 0 → p / C * C ≡ p
div_back C p z = omega (arith, div-add-mod' p C)

pub div_none : (C p : ℕ) → p % C ≡ 0 → p / C ≡ 0 → p ≡ 0
div_none C p z e = sym (div_back C p z) ∙ ap (λ (x : ℕ). x * C) e ∙ zero-mul C

occ_named : (c C p : ℕ) → p % C ≡ 0 → occurrences c (named C p) ≡ hit c (p / C)
unfolding named occurrences
occ_named c C p z =
    if_elim (λ (l : List ℕ). occurrences c l ≡ hit c (p / C)) (eqb p 0) [] (p / C ∷ [])
    (λ e. sym (ap (hit c) (ap (λ (x : ℕ). x / C) (eqb-true p 0 e) ∙ zero-div C) ∙ hit_zero c))
    (λ e. occ_one c (p / C) ∙ same_hit c (p / C) (div_some C p z (eqb-false p 0 e)))

block_at_lem : (s : List ℕ) (k : ℕ) → block_at s k ≡ be64 s (table_at s + 8 * k)
unfolding block_at
block_at_lem s k = refl

module _ (s : List ℕ) (f : Facts s) where
  abbrev m : ℕ → ℕ → ℕ
  m = mem (cluster_size s) s

  pub placed1 : (e : ℕ) → good_l1 (cluster_size s) (length s) e ≡ true → Placed (cluster_size s) (length s) (place e)
  placed1 e h = placed _ _ e (c_pos s f) (c_in s f) (good_place1 _ _ e h)

  pub placed2 : (e : ℕ) → good_l2 (version s) (cluster_size s) (length s) e ≡ true → Placed (cluster_size s) (length s) (place e)
  placed2 e h = placed _ _ e (c_pos s f) (c_in s f) (good_place2 _ _ _ e h)

  module _ (h1 : (i : ℕ) → i < roots s * most_l1 → good_l1 (cluster_size s) (length s) (l1 (geo s) m i) ≡ true)
      (h2 : (i j : ℕ) → i < roots s * most_l1 → j < per_table s → tab (geo s) (code s) m i ≢ 0 → good_l2 (version s) (cluster_size s) (length s) (l2 (geo s) m (tab (geo s) (code s) m i) j) ≡ true)
      (c : ℕ) where
    occ_blocks : occurrences c (joined (named (cluster_size s)) (take (blocks s) (table s))) ≡ sum_to (blocks s) (λ k. same c (blk (geo s) m k))
    unfolding table
    occ_blocks =
        rw (take-entries (blocks s) (table_clusters s * per_table s) (drop (table_at s) s) f.enough)
        (occ_entries c (named (cluster_size s)) (blocks s) (drop (table_at s) s) ∙ sum_cong (blocks s) _ _ go)
      where
        go : (k : ℕ) → k < blocks s → occurrences c (named (cluster_size s) (be64 (drop (table_at s) s) (8 * k))) ≡ same c (blk (geo s) m k)
        go k l =
            let b = block_named s f k l in
            ap (λ (x : ℕ). occurrences c (named (cluster_size s) x)) (be64-drop s (table_at s) (8 * k) ∙ sym (at k))
            ∙ occ_named c (cluster_size s) (block_at s k) b.1.0
            ∙ sym (same_hit c (block_at s k / cluster_size s) (div_some (cluster_size s) (block_at s k) b.1.0 b.0))
            ∙ ap (same c) (sym (blk_own s f k))
          where
            at : (k : ℕ) → block_at s k ≡ be64 s (table_at s + 8 * k)
            at k = block_at_lem s k

    occ_l2 : (i e : ℕ) → i < roots s * most_l1 → l1 (geo s) m i ≡ e → place e ≢ 0
        → occurrences c (joined (l2_refs (version s) (cluster_size s) (length s)) (l2_entries s (place e))) ≡ sum_to (per_table s) (λ j. hit c (dat (geo s) (code s) m i j))
    unfolding l2_entries l2_refs tab
    occ_l2 i e l q d =
        occ_entries c (l2_refs (version s) (cluster_size s) (length s)) (per_table s) (part s (place e) (cluster_size s)) ∙ sum_cong (per_table s) _ _ go
      where
        g1 : good_l1 (cluster_size s) (length s) e ≡ true
        g1 = rw q at (h1 i l)

        t : tab (geo s) (code s) m i ≡ place e / cluster_size s
        t = ap (λ (x : ℕ). place x / cluster_size s) q

        td : tab (geo s) (code s) m i ≢ 0
        td z = div_some (cluster_size s) (place e) (placed1 e g1).whole d (sym t ∙ z)

        go : (j : ℕ) → j < per_table s → occurrences c (l2_refs (version s) (cluster_size s) (length s) (be64 (part s (place e) (cluster_size s)) (8 * j))) ≡ hit c (dat (geo s) (code s) m i j)
        go j n =
            let x = l2 (geo s) m (tab (geo s) (code s) m i) j in
            let b : be64 (part s (place e) (cluster_size s)) (8 * j) ≡ x =
            part8 s (place e) (cluster_size s) (8 * j) (omega (arith, c_8 s f))
            ∙ ap (λ (y : ℕ). be64 s (y + 8 * j)) (sym (div_back (cluster_size s) (place e) (placed1 e g1).whole) ∙ ap (λ (y : ℕ). y * cluster_size s) (sym t))
            ∙ sym (l2_at s f s (tab (geo s) (code s) m i) j) in
            ap (λ (y : ℕ). occurrences c (l2_refs (version s) (cluster_size s) (length s) y)) b
            ∙ ap (occurrences c) (if_yes (good_l2 (version s) (cluster_size s) (length s) x) (named (cluster_size s) (place x)) [] (h2 i j l n td))
            ∙ occ_named c (cluster_size s) (place x) (placed2 x (h2 i j l n td)).whole
            ∙ ap (hit c) (sym (dat_some (geo s) (code s) m i j td))

    -- what L1 entry i refers to, as a table and as data
    module _ (i : ℕ) (l : i < roots s * most_l1) where
      abbrev e : ℕ
      e = l1 (geo s) m i

      occ_tab : occurrences c (take 1 (l1_refs s e)) ≡ hit c (tab (geo s) (code s) m i)
      unfolding l1_refs table_refs tab
      occ_tab =
          ap (λ (r : List ℕ). occurrences c (take 1 r)) (if_no (not (good_l1 (cluster_size s) (length s) e)) [] _ (ap not (h1 i l)))
          ∙ if_elim (λ (r : List ℕ). occurrences c (take 1 r) ≡ hit c (place e / cluster_size s)) (eqb (place e) 0) [] (place e / cluster_size s ∷ joined (l2_refs (version s) (cluster_size s) (length s)) (l2_entries s (place e)))
          (λ z. occ_none c ∙ sym (ap (hit c) (ap (λ (x : ℕ). x / cluster_size s) (eqb-true _ _ z) ∙ zero-div (cluster_size s)) ∙ hit_zero c))
          (λ z. occ_one c (place e / cluster_size s) ∙ same_hit c _ (div_some (cluster_size s) (place e) (placed1 e (h1 i l)).whole (eqb-false _ _ z)))

      occ_dat : occurrences c (drop 1 (l1_refs s e)) ≡ sum_to (per_table s) (λ j. hit c (dat (geo s) (code s) m i j))
      unfolding l1_refs table_refs tab
      occ_dat =
          ap (λ (r : List ℕ). occurrences c (drop 1 r)) (if_no (not (good_l1 (cluster_size s) (length s) e)) [] _ (ap not (h1 i l)))
          ∙ if_elim (λ (r : List ℕ). occurrences c (drop 1 r) ≡ sum_to (per_table s) (λ j. hit c (dat (geo s) (code s) m i j))) (eqb (place e) 0) [] (place e / cluster_size s ∷ joined (l2_refs (version s) (cluster_size s) (length s)) (l2_entries s (place e)))
          (λ z. occ_none c ∙ sym (sum-zero (per_table s) _ (λ j n. ap (hit c) (dat_none (geo s) (code s) m i j (ap (λ (x : ℕ). x / cluster_size s) (eqb-true _ _ z) ∙ zero-div (cluster_size s))) ∙ hit_zero c)))
          (λ z. occ_l2 i e l refl (eqb-false _ _ z))

    -- L1 table t
    module _ (t : ℕ) (h : t < roots s) where
      -- its numbers without an entry name nothing
      tab_absent : (r : ℕ) → root_size s t ≤ r → r < most_l1 → tab (geo s) (code s) m (nr t r) ≡ 0
      unfolding tab
      tab_absent r a b = ap (λ (x : ℕ). place x / cluster_size s) (l1_absent s f s t r h b a) ∙ (geo_ok s f).laws.zero_clus

      -- a list of each entry, counted over its numbers
      occ_root : (g : ℕ → List ℕ) (v : ℕ → ℕ) → ((i : ℕ) → i < roots s * most_l1 → occurrences c (g (l1 (geo s) m i)) ≡ v i)
          → ((r : ℕ) → root_size s t ≤ r → r < most_l1 → v (nr t r) ≡ 0) → occurrences c (joined g (l1_entries s t)) ≡ sum_to most_l1 (λ r. v (nr t r))
      unfolding l1_entries
      occ_root g v k z =
          occ_entries c g (root_size s t) (drop (root_at s t) s)
          ∙ sum_cong (root_size s t) _ _ (λ r l. ap (λ (x : ℕ). occurrences c (g x)) (be64-drop s (root_at s t) (8 * r) ∙ sym (l1_at_lem s f s t r h l)) ∙ k (nr t r) (omega (arith, root-few s f t h)))
          ∙ sym (sum-short most_l1 (root_size s t) (λ r. v (nr t r)) (root-few s f t h) z)

      occ_tables : occurrences c (tables_in s t) ≡ sum_to most_l1 (λ r. hit c (tab (geo s) (code s) m (nr t r)))
      unfolding tables_in
      occ_tables = occ_root (λ e. take 1 (l1_refs s e)) (λ i. hit c (tab (geo s) (code s) m i)) occ_tab (λ r a b. ap (hit c) (tab_absent r a b) ∙ hit_zero c)

      occ_data : occurrences c (data_in s t) ≡ sum_to most_l1 (λ r. sum_to (per_table s) (λ j. hit c (dat (geo s) (code s) m (nr t r) j)))
      unfolding data_in
      occ_data =
          occ_root (λ e. drop 1 (l1_refs s e)) (λ i. sum_to (per_table s) (λ j. hit c (dat (geo s) (code s) m i j))) occ_dat
          (λ r a b. sum-zero (per_table s) _ (λ j n. ap (hit c) (dat_none (geo s) (code s) m (nr t r) j (tab_absent r a b)) ∙ hit_zero c))

    -- all L1 tables
    pub tabs_eq : occurrences c (joined (tables_in s) (run 0 (roots s))) ≡ tabs (roots s * most_l1) (tab (geo s) (code s) m) c
    unfolding tabs
    tabs_eq =
        occ_numbers c (tables_in s) 0 (roots s)
        ∙ sum_cong (roots s) _ _ (λ t l. ap (λ (x : ℕ). occurrences c (tables_in s x)) (zero-add t) ∙ occ_tables t l)
        ∙ sym (sum_split (roots s) most_l1 (λ i. hit c (tab (geo s) (code s) m i)))

    pub dats_eq : occurrences c (joined (data_in s) (run 0 (roots s))) ≡ dats (roots s * most_l1) (per_table s) (dat (geo s) (code s) m) c
    unfolding dats
    dats_eq =
        occ_numbers c (data_in s) 0 (roots s)
        ∙ sum_cong (roots s) _ _ (λ t l. ap (λ (x : ℕ). occurrences c (data_in s x)) (zero-add t) ∙ occ_data t l)
        ∙ sym (sum_split (roots s) most_l1 (λ i. sum_to (per_table s) (λ j. hit c (dat (geo s) (code s) m i j))))

    -- one of them
    pub tree_eq : (t : ℕ) → t < roots s → occurrences c (root_refs s t) ≡ tree_refs (roots s * most_l1) (per_table s) (tree (geo s)) (tab (geo s) (code s) m) (dat (geo s) (code s) m) t c
    unfolding refs tabs dats
    tree_eq t l =
        omega (
          arith,
          occ_both s t c,
          occ_tables t l,
          occ_data t l,
          one-root t l (λ i x. hit c x) (tab (geo s) (code s) m) (hit_zero c),
          one_root₂ t l,
        )
      where
        tr : (u r : ℕ) → r < most_l1 → nr u r / most_l1 ≡ u
        tr u r l = nr_tree u r l

        one-root : (t : ℕ) → t < roots s → (g : ℕ → ℕ → ℕ) (x : ℕ → ℕ) → hit c 0 ≡ 0
            → sum_to (roots s * most_l1) (λ i. hit c (within (tree (geo s)) t i (x i))) ≡ sum_to most_l1 (λ r. hit c (x (nr t r)))
        one-root t l g x z =
            sum_split (roots s) most_l1 (λ i. hit c (within (tree (geo s)) t i (x i)))
            ∙ sum_one (roots s) _ t l (λ u k d. sum-zero most_l1 _ (λ r n. ap (hit c) (within-not (tree (geo s)) t (nr u r) (x (nr u r)) (λ e. d (sym (tr u r n) ∙ e))) ∙ z))
            ∙ sum_cong most_l1 _ _ (λ r n. ap (hit c) (within-is (tree (geo s)) t (nr t r) (x (nr t r)) (tr t r n)))

        one_root₂ : (t : ℕ) → t < roots s
            → sum_to (roots s * most_l1) (λ i. sum_to (per_table s) (λ j. hit c (within (tree (geo s)) t i (dat (geo s) (code s) m i j)))) ≡ sum_to most_l1 (λ r. sum_to (per_table s) (λ j. hit c (dat (geo s) (code s) m (nr t r) j)))
        one_root₂ t l =
            sum_split (roots s) most_l1 (λ i. sum_to (per_table s) (λ j. hit c (within (tree (geo s)) t i (dat (geo s) (code s) m i j))))
            ∙ sum_one (roots s) _ t l (λ u k d. sum-zero most_l1 _ (λ r n. sum-zero (per_table s) _ (λ j o. ap (hit c) (within-not (tree (geo s)) t (nr u r) (dat (geo s) (code s) m (nr u r) j) (λ e. d (sym (tr u r n) ∙ e))) ∙ hit_zero c)))
            ∙ sum_cong most_l1 _ _ (λ r n. sum_cong (per_table s) _ _ (λ j o. ap (hit c) (within-is (tree (geo s)) t (nr t r) (dat (geo s) (code s) m (nr t r) j) (tr t r n))))

    -- no more than these
    pub tree_none : (t : ℕ) → roots s ≤ t → tree_refs (roots s * most_l1) (per_table s) (tree (geo s)) (tab (geo s) (code s) m) (dat (geo s) (code s) m) t c ≡ 0
    unfolding refs tabs dats
    tree_none t l =
        omega (
          arith,
          sum-zero (roots s * most_l1) (λ i. hit c (within (tree (geo s)) t i (tab (geo s) (code s) m i))) (λ i k. none i (tab (geo s) (code s) m i) k),
          sum-zero (roots s * most_l1) (λ i. sum_to (per_table s) (λ j. hit c (within (tree (geo s)) t i (dat (geo s) (code s) m i j))))
              (λ i k. sum-zero (per_table s) (λ j. hit c (within (tree (geo s)) t i (dat (geo s) (code s) m i j))) (λ j o. none i (dat (geo s) (code s) m i j) k)),
        )
      where
        none : (i x : ℕ) → i < roots s * most_l1 → hit c (within (tree (geo s)) t i x) ≡ 0
        none i x k = ap (hit c) (within-not (tree (geo s)) t i x (λ e. omega (arith, e))) ∙ hit_zero c

    -- the fixed clusters
    pub fixed_eq : occurrences c (fixed_refs s) ≡ fix (geo s) m c
    unfolding fixed_refs fix rooted occurrences sum_to
    fixed_eq =
        omega (
          arith,
          one c 0,
          occ_four c (run (table_at s / cluster_size s) (table_clusters s)) (joined (root_run s) (run 0 (roots s))) (snapshot_run s)
              (joined (named (cluster_size s)) (take (blocks s) (table s))),
          occ_run c (table_at s / cluster_size s) (table_clusters s),
          occ_roots s c,
          occ_shots s c,
          occ_blocks,
        )

    pub refs_eq : occurrences c (references s) ≡ refs_of (geo s) (code s) m c
    unfolding references refs
    refs_eq =
        omega (
          arith,
          occ_append c (fixed_refs s) (joined (root_refs s) (run 0 (roots s))),
          fixed_eq,
          occ_split c (root_refs s) (tables_in s) (data_in s) (λ t. occ_both s t c) (run 0 (roots s)),
          tabs_eq,
          dats_eq,
        )
