-- The tables of an image, read from its clusters, and what a store in one cluster leaves of them. Assumes nothing.
use mathlib.Core.Path.{◌≡◌, refl, sym, ap, ◌∙◌, fun_ext}
use mathlib.Core.Logic.{inl, inr, ◌≢◌, ◌↔◌}
use Prim.Native.Nat.{ℕ, zero, suc, ◌+◌, ◌-◌, ◌*◌, ◌/◌, ◌%◌, ◌^◌, ◌≤◌, ◌<◌}
use native.Mathlib.Nat.{div-lt_iff_lt-mul, mod-lt, mul-le-mul_left}
use native.Mathlib.Decide.{ℕ_discrete, dec_lt}
use native.Mathlib.Omega.{arith}
use Rattle.cuts.proofs.Sum.{sum_to, sum_cong, sum-two, sum_mem}
use Rattle.cuts.proofs.Refs.{when_yes, refs, refs_same, Inv, inv_same}
use Rattle.widths.specs.Width.{span}
use Rattle.cuts.proofs.Cell.{num, num_cong, cell, cell_cong, Even, Within}

pub record Geo : Type 0 where
  pub C : ℕ  -- bytes in a cluster
  pub E : ℕ  -- entries in a table's cluster
  pub H : ℕ  -- counts in a block
  pub W : ℕ  -- bits of a count
  pub N : ℕ  -- clusters
  pub B : ℕ  -- blocks
  pub T : ℕ  -- L1 tables: the guest's is 0, the others are the snapshots'
  pub M : ℕ  -- entry r of L1 table t has the number t * M + r
  pub L : ℕ  -- so many numbers
  pub len : ℕ → ℕ  -- the entries of L1 table t
  pub root : ℕ → ℕ  -- the first cluster of L1 table t, and how many it has; after the last table, those of the snapshots' directory
  pub span : ℕ → ℕ
  pub rtc : ℕ  -- the refcount table's
  pub rtn : ℕ
  pub size : ℕ  -- bytes of the guest's disk
  pub idle : ℕ  -- no table, count or guest byte is read from the header's bytes from here to before `busy`
  pub busy : ℕ

-- how an entry is read and made
pub record Codec : Type 1 where
  pub clus : ℕ → ℕ
  pub flag : ℕ → ℕ
  pub own : ℕ → ℕ  -- the mark of an entry whose place has one reference: 1
  pub good1 : ℕ → Type 0
  pub good2 : ℕ → Type 0
  pub mk : ℕ → ℕ

pub record Laws (N : ℕ) (K : Codec) : Type 0 where
  pub in1 : (e : ℕ) → K.good1 e → K.clus e < N
  pub in2 : (e : ℕ) → K.good2 e → K.clus e < N
  pub mk_clus : (t : ℕ) → t < N → K.clus (K.mk t) ≡ t
  pub mk_flag : (t : ℕ) → t < N → K.flag (K.mk t) ≡ 0
  pub mk_own : (t : ℕ) → t < N → K.own (K.mk t) ≡ 1
  pub mk_good1 : (t : ℕ) → t < N → t ≢ 0 → K.good1 (K.mk t)
  pub mk_good2 : (t : ℕ) → t < N → t ≢ 0 → K.good2 (K.mk t)
  pub mk_lt : (t : ℕ) → t < N → K.mk t < 256 ^ 8
  pub zero_clus : K.clus 0 ≡ 0
  pub zero_flag : K.flag 0 ≡ 0
  pub zero-good1 : K.good1 0
  pub zero-good2 : K.good2 0

pub record GeoOk (g : Geo) (K : Codec) : Type 0 where
  pub laws : Laws g.N K
  pub c8 : g.C ≡ 8 * g.E
  pub cw : 8 * g.C ≡ g.W * g.H
  pub even : Even g.W
  pub fit : (i : ℕ) → Within g.W (g.W * i)
  pub wpos : 0 < g.W
  pub epos : 0 < g.E
  pub hpos : 0 < g.H
  pub blocks : g.N ≤ g.B * g.H
  pub rtfit : g.B ≤ g.rtn * g.E
  pub mpos : 0 < g.M
  pub every : g.L ≡ g.T * g.M
  pub l1fit : (t : ℕ) → t < g.T → g.len t ≤ g.span t * g.E
  pub rtin : g.rtc + g.rtn ≤ g.N
  pub l1in : (t k : ℕ) → t < suc g.T → k < g.span t → g.root t + k < g.N
  pub npos : 0 < g.N
  pub idle_in : g.busy ≤ g.C

unfoldable pub same : ℕ → ℕ → ℕ
unfolding when_yes
same c p = when_yes (ℕ_discrete c p) 1

pub same_eq : (c p : ℕ) → c ≡ p → same c p ≡ 1
unfolding same when_yes
same_eq c p e = go (ℕ_discrete c p)
  where
    go : (x : Dec (c ≡ p)) → when_yes x 1 ≡ 1
    go (yes a) = refl
    go (no n) = absurd (n e)

module _ (g : Geo) where
  -- entry k of the refcount table, the cluster of the block that it names, and the count of cluster c
  unfoldable pub rt : (ℕ → ℕ → ℕ) → ℕ → ℕ
  rt m k = num 8 (m (g.rtc + k / g.E)) (8 * (k % g.E))

  unfoldable pub blk : (ℕ → ℕ → ℕ) → ℕ → ℕ
  unfolding rt
  blk m k = rt m k / g.C

  unfoldable pub cnt : (ℕ → ℕ → ℕ) → ℕ → ℕ
  unfolding blk
  cnt m c = cell g.W (m (blk m (c / g.H))) (g.W * (c % g.H))

  -- the L1 table of number i, the cluster of entry i and the place in it
  abbrev pub tree : ℕ → ℕ
  tree i = i / g.M

  abbrev pub row : ℕ → ℕ
  row i = g.root (i / g.M) + i % g.M / g.E

  abbrev pub col : ℕ → ℕ
  col i = i % g.M % g.E

  -- number i stands for an entry
  abbrev pub Has : ℕ → Type 0
  Has i = i % g.M < g.len (i / g.M)

  -- L1 entry i, 0 where there is none, and entry j of the L2 table in cluster t
  unfoldable pub l1 : (ℕ → ℕ → ℕ) → ℕ → ℕ
  unfolding when_yes
  l1 m i = when_yes (dec_lt (i % g.M) (g.len (i / g.M))) (num 8 (m (row i)) (8 * col i))

  unfoldable pub l2 : (ℕ → ℕ → ℕ) → ℕ → ℕ → ℕ
  l2 m t j = num 8 (m t) (8 * j)

  -- the clusters of the L1 tables and of the directory
  unfoldable pub rooted : ℕ → ℕ
  rooted c = sum_to (suc g.T) (λ t. sum_to (g.span t) (λ k. same c (g.root t + k)))

  -- references that no L1 or L2 entry makes: cluster 0, the refcount table, the L1 tables and the directory, the blocks
  unfoldable pub fix : (ℕ → ℕ → ℕ) → ℕ → ℕ
  unfolding rooted
  fix m c = same c 0 + sum_to g.rtn (λ k. same c (g.rtc + k)) + rooted c + sum_to g.B (λ k. same c (blk m k))

  pub l1_some : (m : ℕ → ℕ → ℕ) (i : ℕ) → Has i → l1 m i ≡ num 8 (m (row i)) (8 * col i)
  unfolding l1 when_yes
  l1_some m i h = go (dec_lt (i % g.M) (g.len (i / g.M)))
    where
      go : (d : Dec (i % g.M < g.len (i / g.M))) → when_yes d (num 8 (m (row i)) (8 * col i)) ≡ num 8 (m (row i)) (8 * col i)
      go (yes e) = refl
      go (no n) = absurd (n h)

  pub l1_none : (m : ℕ → ℕ → ℕ) (i : ℕ) → ¬ Has i → l1 m i ≡ 0
  unfolding l1 when_yes
  l1_none m i h = go (dec_lt (i % g.M) (g.len (i / g.M)))
    where
      go : (d : Dec (i % g.M < g.len (i / g.M))) → when_yes d (num 8 (m (row i)) (8 * col i)) ≡ 0
      go (yes e) = absurd (h e)
      go (no n) = refl

-- the mark o is right where r references lead
abbrev pub Right : (o r : ℕ) → Type 0
Right o r = (o ≡ 1) ↔ (r ≡ 1)

unfoldable pub under : ℕ → ℕ → ℕ
under zero p = 0
under (suc t) p = p

pub under_some : (t p : ℕ) → t ≢ 0 → under t p ≡ p
unfolding under
under_some zero p d = absurd (d refl)
under_some (suc t) p d = refl

module _ (g : Geo) (K : Codec) where
  unfoldable pub tab : (ℕ → ℕ → ℕ) → ℕ → ℕ
  unfolding l1
  tab m i = K.clus (l1 g m i)

  unfoldable pub dat : (ℕ → ℕ → ℕ) → ℕ → ℕ → ℕ
  unfolding l2 under
  dat m i j = under (tab m i) (K.clus (l2 g m (tab m i) j))

  -- the zero mark of that entry; none where there is no table
  unfoldable pub mark : (ℕ → ℕ → ℕ) → ℕ → ℕ → ℕ
  unfolding l2 under
  mark m i j = under (tab m i) (K.flag (l2 g m (tab m i) j))

  abbrev pub refs_of : (ℕ → ℕ → ℕ) → ℕ → ℕ
  refs_of m = refs g.L g.E (fix g m) (tab m) (dat m)

pub record Sound (g : Geo) (K : Codec) (m : ℕ → ℕ → ℕ) : Type 0 where
  pub bytes : (k x : ℕ) → m k x < 256
  pub blkin : (k : ℕ) → k < g.B → blk g m k < g.N
  pub goods1 : (i : ℕ) → i < g.L → K.good1 (l1 g m i)
  pub goods2 : (i j : ℕ) → i < g.L → j < g.E → tab g K m i ≢ 0 → K.good2 (l2 g m (tab g K m i) j)
  pub inv : Inv g.N g.L g.E (tree g) (fix g m) (tab g K m) (dat g K m) (cnt g m)
  pub mark1 : (i : ℕ) → i < g.L → i < g.M → tab g K m i ≢ 0 → Right (K.own (l1 g m i)) (refs_of g K m (tab g K m i))
  pub mark2 : (i j : ℕ) → i < g.L → i < g.M → j < g.E → dat g K m i j ≢ 0 → Right (K.own (l2 g m (tab g K m i) j)) (refs_of g K m (dat g K m i j))

-- every table of m' is that of m; the counts may differ
pub record Keep (g : Geo) (K : Codec) (m m' : ℕ → ℕ → ℕ) : Type 0 where
  pub small : (k x : ℕ) → m' k x < 256
  pub rts : (k : ℕ) → k < g.rtn * g.E → rt g m' k ≡ rt g m k
  pub l1s : (i : ℕ) → i < g.L → l1 g m' i ≡ l1 g m i
  pub l2s : (i j : ℕ) → i < g.L → j < g.E → tab g K m i ≢ 0 → l2 g m' (tab g K m i) j ≡ l2 g m (tab g K m i) j

module _ (g : Geo) (K : Codec) (m : ℕ → ℕ → ℕ) where
  pub dat_none : (i j : ℕ) → tab g K m i ≡ 0 → dat g K m i j ≡ 0
  unfolding dat under
  dat_none i j e = ap (λ (t : ℕ). under t (K.clus (l2 g m (tab g K m i) j))) e

  pub dat_some : (i j : ℕ) → tab g K m i ≢ 0 → dat g K m i j ≡ K.clus (l2 g m (tab g K m i) j)
  unfolding dat
  dat_some i j d = under_some (tab g K m i) (K.clus (l2 g m (tab g K m i) j)) d

  pub mark_none : (i j : ℕ) → tab g K m i ≡ 0 → mark g K m i j ≡ 0
  unfolding mark under
  mark_none i j e = ap (λ (t : ℕ). under t (K.flag (l2 g m (tab g K m i) j))) e

  pub mark_some : (i j : ℕ) → tab g K m i ≢ 0 → mark g K m i j ≡ K.flag (l2 g m (tab g K m i) j)
  unfolding mark
  mark_some i j d = under_some (tab g K m i) (K.flag (l2 g m (tab g K m i) j)) d

module _ (g : Geo) (K : Codec) (ok : GeoOk g K) (m m' : ℕ → ℕ → ℕ) where
  pub keep_blk : Keep g K m m' → (k : ℕ) → k < g.B → blk g m' k ≡ blk g m k
  unfolding blk
  keep_blk e k l = ap (λ (x : ℕ). x / g.C) (e.rts k (omega (arith, ok.rtfit)))

  pub keep_fix : Keep g K m m' → (c : ℕ) → fix g m' c ≡ fix g m c
  unfolding fix
  keep_fix e c = omega (arith, sum_cong g.B (λ k. same c (blk g m' k)) (λ k. same c (blk g m k)) (λ k l. ap (same c) (keep_blk e k l)))

  pub keep_tab : Keep g K m m' → (i : ℕ) → i < g.L → tab g K m' i ≡ tab g K m i
  unfolding tab
  keep_tab e i l = ap K.clus (e.l1s i l)

  pub keep_dat : Keep g K m m' → (i j : ℕ) → i < g.L → j < g.E → dat g K m' i j ≡ dat g K m i j
  keep_dat e i j l k = go (ℕ_discrete (tab g K m i) 0)
    where
      t : tab g K m' i ≡ tab g K m i
      t = keep_tab e i l

      go : Dec (tab g K m i ≡ 0) → dat g K m' i j ≡ dat g K m i j
      go (yes z) = dat_none g K m' i j (t ∙ z) ∙ sym (dat_none g K m i j z)
      go (no d) = dat_some g K m' i j (λ z. d (sym t ∙ z)) ∙ ap K.clus (ap (λ (x : ℕ). l2 g m' x j) t ∙ e.l2s i j l k d) ∙ sym (dat_some g K m i j d)

  pub keep_mark : Keep g K m m' → (i j : ℕ) → i < g.L → j < g.E → mark g K m' i j ≡ mark g K m i j
  keep_mark e i j l k = go (ℕ_discrete (tab g K m i) 0)
    where
      t : tab g K m' i ≡ tab g K m i
      t = keep_tab e i l

      go : Dec (tab g K m i ≡ 0) → mark g K m' i j ≡ mark g K m i j
      go (yes z) = mark_none g K m' i j (t ∙ z) ∙ sym (mark_none g K m i j z)
      go (no d) = mark_some g K m' i j (λ z. d (sym t ∙ z)) ∙ ap K.flag (ap (λ (x : ℕ). l2 g m' x j) t ∙ e.l2s i j l k d) ∙ sym (mark_some g K m i j d)

  pub keep_refs : Keep g K m m' → (c : ℕ) → refs_of g K m' c ≡ refs_of g K m c
  keep_refs e c =
      ap (λ (f : ℕ → ℕ). refs g.L g.E f (tab g K m') (dat g K m') c) (fun_ext (keep_fix e))
      ∙ refs_same g.L g.E (fix g m) (tab g K m') (tab g K m) (dat g K m') (dat g K m) (keep_tab e) (keep_dat e) c

  pub keep_sound : Sound g K m → Keep g K m m' → ((c : ℕ) → c < g.N → refs_of g K m c ≤ cnt g m' c) → Sound g K m'
  keep_sound s e h =
      record {
        bytes = e.small;
        blkin = λ k l. rw (keep_blk e k l) (s.blkin k l);
        goods1 = λ i l. rw (e.l1s i l) (s.goods1 i l);
        goods2 = λ i j l k d. let t : tab g K m' i ≡ tab g K m i = keep_tab e i l in
            let d' : tab g K m i ≢ 0 = λ z. d (t ∙ z) in
            rw t (rw (e.l2s i j l k d') (s.goods2 i j l k d'));
        inv = let v : Inv g.N g.L g.E (tree g) (fix g m') (tab g K m) (dat g K m) (cnt g m) = rw fix-kept s.inv in
            let w : Inv g.N g.L g.E (tree g) (fix g m') (tab g K m') (dat g K m') (cnt g m) =
            inv_same g.N g.L g.E (tree g) (fix g m') (tab g K m) (tab g K m') (dat g K m) (dat g K m') (cnt g m) (cnt g m) v (λ i l. sym (keep_tab e i l)) (λ i j l k. sym (keep_dat e i j l k)) (λ c l. refl) in
            record { fixed = w.fixed; roles = w.roles; once = w.once; covered = λ c l. rw (keep_refs e c) (h c l) };
        mark1 = λ i l n d. let t : tab g K m' i ≡ tab g K m i = keep_tab e i l in
            rw (e.l1s i l, t, keep_refs e (tab g K m i)) (s.mark1 i l n (λ z. d (t ∙ z)));
        mark2 = λ i j l n k d. let t : tab g K m' i ≡ tab g K m i = keep_tab e i l in
            let q : dat g K m' i j ≡ dat g K m i j = keep_dat e i j l k in
            let d' : dat g K m i j ≢ 0 = λ z. d (q ∙ z) in
            rw (t, q, e.l2s i j l k (λ z. d' (dat_none g K m i j z)), keep_refs e (dat g K m i j)) (s.mark2 i j l n k d');
      }
    where
      fix-kept : fix g m' ≡ fix g m
      fix-kept = fun_ext (keep_fix e)

-- ---- the numbers of L1 entries
module _ (g : Geo) (K : Codec) (ok : GeoOk g K) (i : ℕ) (l : i < g.L) where
  pub tree_in : i / g.M < g.T
  tree_in = (div-lt_iff_lt-mul ok.mpos).1 (omega (arith, ok.every))

  pub row_in : Has g i → i % g.M / g.E < g.span (i / g.M)
  row_in h = (div-lt_iff_lt-mul ok.epos).1 (omega (arith, ok.l1fit (i / g.M) tree_in))

  pub row-N : Has g i → row g i < g.N
  row-N h = ok.l1in (i / g.M) (i % g.M / g.E) (omega (arith, tree_in)) (row_in h)

-- ---- what a change in cluster w leaves
abbrev pub Off : ℕ → (ℕ → ℕ → ℕ) → (ℕ → ℕ → ℕ) → ℕ → Type 0
Off C m m' w = (k x : ℕ) → x < C → k ≢ w → m' k x ≡ m k x

module _ (g : Geo) (K : Codec) (ok : GeoOk g K) (m m' : ℕ → ℕ → ℕ) (w : ℕ) (off : Off g.C m m' w) where
  num_off : (k c p : ℕ) → p + k ≤ g.C → c ≢ w → num k (m' c) p ≡ num k (m c) p
  num_off k c p l d = num_cong k (m' c) (m c) p (λ x a b. off c x (omega arith) d)

  pub l2_off : (t j : ℕ) → j < g.E → t ≢ w → l2 g m' t j ≡ l2 g m t j
  unfolding l2
  l2_off t j l d = num_off 8 t (8 * j) (omega (arith, ok.c8)) d

  pub rt_off : ((k : ℕ) → k < g.rtn → w ≢ g.rtc + k) → (k : ℕ) → k < g.rtn * g.E → rt g m' k ≡ rt g m k
  unfolding rt
  rt_off a k l =
      num_off 8 (g.rtc + k / g.E) (8 * (k % g.E)) (omega (arith, ok.c8, mod-lt k ok.epos))
      (λ e. a (k / g.E) ((div-lt_iff_lt-mul ok.epos).1 l) (sym e))

  pub l1_off : ((t k : ℕ) → t < suc g.T → k < g.span t → w ≢ g.root t + k) → (i : ℕ) → i < g.L → l1 g m' i ≡ l1 g m i
  l1_off a i l = go (dec_lt (i % g.M) (g.len (i / g.M)))
    where
      go : Dec (i % g.M < g.len (i / g.M)) → l1 g m' i ≡ l1 g m i
      go (no n) = l1_none g m' i n ∙ sym (l1_none g m i n)
      go (yes h) =
          l1_some g m' i h
          ∙ num_off 8 (row g i) (8 * col g i) (omega (arith, ok.c8, mod-lt (i % g.M) ok.epos))
          (λ e. a (i / g.M) (i % g.M / g.E) (omega (arith, tree_in g K ok i l)) (row_in g K ok i l h) (sym e))
          ∙ sym (l1_some g m i h)

  -- a count's bytes are inside its block
  pub cell_in : (i : ℕ) → i < g.H → g.W * i / 8 + span g.W ≤ g.C
  cell_in i l = go ok.even
    where
      h : g.W * i + g.W ≤ 8 * g.C
      h = omega (arith, ok.cw, mul-le-mul_left g.W l)

      go : Even g.W → g.W * i / 8 + span g.W ≤ g.C
      go (inl e) = omega (arith, ok.wpos, h)
      go (inr e) = omega (arith, ok.fit i, h)

  pub cnt_off : ((k : ℕ) → k < g.B → blk g m' k ≡ blk g m k) → (c : ℕ) → c < g.N → blk g m (c / g.H) ≢ w → cnt g m' c ≡ cnt g m c
  unfolding cnt
  cnt_off a c l d =
      ap (λ (b : ℕ). cell g.W (m' b) (g.W * (c % g.H))) (a (c / g.H) ((div-lt_iff_lt-mul ok.hpos).1 (omega (arith, ok.blocks))))
      ∙ cell_cong g.W (m' (blk g m (c / g.H))) (m (blk g m (c / g.H))) (g.W * (c % g.H))
      (λ x p q. off (blk g m (c / g.H)) x (omega (arith, cell_in (c % g.H) (mod-lt c ok.hpos))) d)

-- ---- the fixed clusters stand apart
module _ (g : Geo) (m : ℕ → ℕ → ℕ) (c : ℕ) where
  pub fix-0 : c ≡ 0 → 1 ≤ fix g m c
  unfolding fix
  fix-0 e = omega (arith, same_eq c 0 e)

  pub fix_rt : (k : ℕ) → k < g.rtn → c ≡ g.rtc + k → 1 ≤ fix g m c
  unfolding fix
  fix_rt k l e = omega (arith, same_eq c (g.rtc + k) e, sum_mem g.rtn (λ x. same c (g.rtc + x)) k l)

  root-one : (t k : ℕ) → t < suc g.T → k < g.span t → c ≡ g.root t + k → 1 ≤ sum_to (g.span t) (λ x. same c (g.root t + x))
  root-one t k l n e = omega (arith, same_eq c (g.root t + k) e, sum_mem (g.span t) (λ x. same c (g.root t + x)) k n)

  roots-one : (t k : ℕ) → t < suc g.T → k < g.span t → c ≡ g.root t + k → 1 ≤ rooted g c
  unfolding rooted
  roots-one t k l n e = omega (arith, root-one t k l n e, sum_mem (suc g.T) (λ x. sum_to (g.span x) (λ y. same c (g.root x + y))) t l)

  roots-two : (t k u q : ℕ) → t < suc g.T → k < g.span t → u < suc g.T → q < g.span u → t ≢ u → c ≡ g.root t + k → c ≡ g.root u + q → 2 ≤ rooted g c
  unfolding rooted
  roots-two t k u q l n p o d e f =
      omega (arith, root-one t k l n e, root-one u q p o f, sum-two (suc g.T) (λ x. sum_to (g.span x) (λ y. same c (g.root x + y))) t u l p d)

  pub fix_l1 : (t k : ℕ) → t < suc g.T → k < g.span t → c ≡ g.root t + k → 1 ≤ fix g m c
  unfolding fix
  fix_l1 t k l n e = omega (arith, roots-one t k l n e)

  pub fix_blk : (k : ℕ) → k < g.B → c ≡ blk g m k → 1 ≤ fix g m c
  unfolding fix
  fix_blk k l e = omega (arith, same_eq c (blk g m k) e, sum_mem g.B (λ x. same c (blk g m x)) k l)

  -- a block is not in the tables, and no other block
  pub blk_0 : (k : ℕ) → k < g.B → fix g m c ≤ 1 → c ≡ blk g m k → c ≢ 0
  unfolding fix
  blk_0 k l f e z = omega (arith, same_eq c 0 z, same_eq c (blk g m k) e, sum_mem g.B (λ x. same c (blk g m x)) k l)

  pub blk_rt : (k a : ℕ) → k < g.B → a < g.rtn → fix g m c ≤ 1 → c ≡ blk g m k → c ≢ g.rtc + a
  unfolding fix
  blk_rt k a l n f e z =
      omega (arith, same_eq c (g.rtc + a) z, sum_mem g.rtn (λ x. same c (g.rtc + x)) a n, same_eq c (blk g m k) e, sum_mem g.B (λ x. same c (blk g m x)) k l)

  pub blk_l1 : (k t a : ℕ) → k < g.B → t < suc g.T → a < g.span t → fix g m c ≤ 1 → c ≡ blk g m k → c ≢ g.root t + a
  unfolding fix
  blk_l1 k t a l n o f e z =
      omega (arith, roots-one t a n o z, same_eq c (blk g m k) e, sum_mem g.B (λ x. same c (blk g m x)) k l)

  pub blk_blk : (k a : ℕ) → k < g.B → a < g.B → a ≢ k → fix g m c ≤ 1 → c ≡ blk g m k → c ≢ blk g m a
  unfolding fix
  blk_blk k a l n d f e z =
      omega (arith, same_eq c (blk g m a) z, same_eq c (blk g m k) e, sum-two g.B (λ x. same c (blk g m x)) a k n l d)

  -- a cluster of the refcount table is not the header's
  pub rt_0 : (k : ℕ) → k < g.rtn → fix g m c ≤ 1 → c ≡ g.rtc + k → c ≢ 0
  unfolding fix
  rt_0 k l f e z = omega (arith, same_eq c 0 z, same_eq c (g.rtc + k) e, sum_mem g.rtn (λ x. same c (g.rtc + x)) k l)

  -- a cluster of an L1 table or of the directory is none of the others
  pub l1_0 : (t k : ℕ) → t < suc g.T → k < g.span t → fix g m c ≤ 1 → c ≡ g.root t + k → c ≢ 0
  unfolding fix
  l1_0 t k l n f e z = omega (arith, same_eq c 0 z, roots-one t k l n e)

  pub l1_rt : (t k a : ℕ) → t < suc g.T → k < g.span t → a < g.rtn → fix g m c ≤ 1 → c ≡ g.root t + k → c ≢ g.rtc + a
  unfolding fix
  l1_rt t k a l o n f e z =
      omega (arith, same_eq c (g.rtc + a) z, sum_mem g.rtn (λ x. same c (g.rtc + x)) a n, roots-one t k l o e)

  pub l1_l1 : (t k u q : ℕ) → t < suc g.T → k < g.span t → u < suc g.T → q < g.span u → t ≢ u → fix g m c ≤ 1 → c ≡ g.root t + k → c ≢ g.root u + q
  unfolding fix
  l1_l1 t k u q l n p o d f e z = omega (arith, roots-two t k u q l n p o d e z)
