-- An image that was made longer: sound with its clusters and blocks, it is sound with more, and the guest reads the same. Assumes nothing.
use mathlib.Core.Path.{◌≡◌, refl, sym, ap, ◌∙◌}
use mathlib.Core.Logic.{inl, ◌≢◌}
use Prim.Native.Nat.{ℕ, suc, ◌+◌, ◌*◌, ◌/◌, ◌≤◌, ◌<◌}
use native.Mathlib.Nat.{mul-le-mul_right, mul-div_cancel}
use native.Mathlib.Decide.{ℕ_discrete, dec_lt}
use native.Mathlib.Omega.{arith}
use Rattle.cuts.proofs.Sum.{sum_to, sum_cong, sum-zero, sum-short, sum_one}
use Rattle.cuts.proofs.Refs.{when_yes, hit, hit_other, tabs, tabs_same, dats, dats_same, refs, refs_is, tree_refs_lem, Inv, inv_same}
use Rattle.cuts.proofs.Meta.{Geo, Codec, GeoOk, Sound, same, same_eq, rt, blk, cnt, tree, l1, l2, rooted, fix, tab, dat, mark, refs_of, under, dat_none}
use Rattle.cuts.proofs.Step.{shown-same, gread, tab_in, dat_in}

-- the same shape with more clusters and blocks
abbrev pub longer : Geo → (N B : ℕ) → Geo
longer g N B =
    record {
      C = g.C;
      E = g.E;
      H = g.H;
      W = g.W;
      N = N;
      B = B;
      T = g.T;
      M = g.M;
      L = g.L;
      len = g.len;
      root = g.root;
      span = g.span;
      rtc = g.rtc;
      rtn = g.rtn;
      size = g.size;
      idle = g.idle;
      busy = g.busy;
    }

-- m' has the tables, counts and data of m, and each new block k in cluster k * H, where it counts itself
pub record Appended (g : Geo) (K : Codec) (m : ℕ → ℕ → ℕ) (N' B' : ℕ) (K' : Codec) (m' : ℕ → ℕ → ℕ) : Type 0 where
  pub more : g.N ≤ N'
  pub most : g.B ≤ B'
  pub clus : (e : ℕ) → K'.clus e ≡ K.clus e
  pub flag : (e : ℕ) → K'.flag e ≡ K.flag e
  pub own : (e : ℕ) → K'.own e ≡ K.own e
  pub good1 : (e : ℕ) → K.good1 e → K'.good1 e
  pub good2 : (e : ℕ) → K.good2 e → K'.good2 e
  pub small : (k x : ℕ) → m' k x < 256
  pub rts : (k : ℕ) → k < g.B → rt g m' k ≡ rt g m k
  pub l1s : (i : ℕ) → i < g.L → l1 g m' i ≡ l1 g m i
  pub l2s : (i j : ℕ) → i < g.L → j < g.E → tab g K m i ≢ 0 → l2 g m' (tab g K m i) j ≡ l2 g m (tab g K m i) j
  pub cnts : (c : ℕ) → c < g.N → cnt g m' c ≡ cnt g m c
  pub news : (k : ℕ) → g.B ≤ k → k < B' → blk g m' k ≡ k * g.H
  pub new_in : (k : ℕ) → g.B ≤ k → k < B' → k * g.H < N'
  pub ones : (k : ℕ) → g.B ≤ k → k < B' → 1 ≤ cnt g m' (k * g.H)
  pub datas : (i j x : ℕ) → i < g.L → j < g.E → x < g.C → dat g K m i j ≢ 0 → m' (dat g K m i j) x ≡ m (dat g K m i j) x

-- ---- what does not ask for the number of clusters or blocks
module _ (g : Geo) (N B : ℕ) (m : ℕ → ℕ → ℕ) where
  blk_longer : (k : ℕ) → blk (longer g N B) m k ≡ blk g m k
  unfolding blk rt
  blk_longer k = refl

  cnt_longer : (c : ℕ) → cnt (longer g N B) m c ≡ cnt g m c
  unfolding cnt blk rt
  cnt_longer c = refl

  l1_longer : (i : ℕ) → l1 (longer g N B) m i ≡ l1 g m i
  unfolding l1
  l1_longer i = refl

  l2_longer : (t j : ℕ) → l2 (longer g N B) m t j ≡ l2 g m t j
  unfolding l2
  l2_longer t j = refl

  rooted_longer : (c : ℕ) → rooted (longer g N B) c ≡ rooted g c
  unfolding rooted
  rooted_longer c = refl

-- ---- clusters past those of an image
same_ne : (c p : ℕ) → c ≢ p → same c p ≡ 0
unfolding same when_yes
same_ne c p d = go (ℕ_discrete c p)
  where
    go : (x : Dec (c ≡ p)) → when_yes x 1 ≡ 0
    go (yes e) = absurd (d e)
    go (no n) = refl

-- no refcount table, L1 table or directory lies there, and no entry leads there
module _ (g : Geo) (K : Codec) (ok : GeoOk g K) (m : ℕ → ℕ → ℕ) (s : Sound g K m) (c : ℕ) (far : g.N ≤ c) where
  rt_far : sum_to g.rtn (λ k. same c (g.rtc + k)) ≡ 0
  rt_far = sum-zero g.rtn (λ k. same c (g.rtc + k)) (λ k l. same_ne c (g.rtc + k) (λ e. omega (arith, ok.rtin)))

  rooted_far : rooted g c ≡ 0
  unfolding rooted
  rooted_far =
      sum-zero (suc g.T) (λ t. sum_to (g.span t) (λ k. same c (g.root t + k)))
      (λ t l. sum-zero (g.span t) (λ k. same c (g.root t + k)) (λ k n. same_ne c (g.root t + k) (λ e. omega (arith, ok.l1in t k l n))))

  tabs_far : tabs g.L (tab g K m) c ≡ 0
  unfolding tabs
  tabs_far = sum-zero g.L (λ i. hit c (tab g K m i)) (λ i l. hit_other c (tab g K m i) (λ e. omega (arith, tab_in g K ok m s i l)))

  dats_far : dats g.L g.E (dat g K m) c ≡ 0
  unfolding dats
  dats_far =
      sum-zero g.L (λ i. sum_to g.E (λ j. hit c (dat g K m i j)))
      (λ i l. sum-zero g.E (λ j. hit c (dat g K m i j)) (λ j k. hit_other c (dat g K m i j) (λ e. omega (arith, dat_in g K ok m s i j l k))))

-- the invariant of more clusters: the earlier ones have the same fixed references, and to the later ones no entry leads
inv_longer : (N N' L E : ℕ) (tree fix fix' tab : ℕ → ℕ) (dat : ℕ → ℕ → ℕ) (cnt : ℕ → ℕ) → Inv N L E tree fix tab dat cnt
    → ((c : ℕ) → c < N → fix' c ≡ fix c)
    → ((c : ℕ) → N ≤ c → (fix' c ≤ 1) × (fix' c ≤ cnt c)) → ((c : ℕ) → N ≤ c → tabs L tab c ≡ 0) → ((c : ℕ) → N ≤ c → dats L E dat c ≡ 0)
    → Inv N' L E tree fix' tab dat cnt
inv_longer N N' L E tree fix fix' tab dat cnt v near far t d =
    record {
      fixed = λ c l f. split c (λ n. omega (arith, all c, was c, near c n, v.fixed c n (omega (arith, near c n)))) (λ n. omega (arith, all c, (far c n).0, t c n, d c n));
      roles = λ c l. split c (v.roles c) (λ n. inl (t c n));
      once = λ τ c l. split c (v.once τ c) (λ n. omega (arith, tree_refs_lem L E tree (λ x. 0) tab dat τ c, refs_is L E (λ x. 0) tab dat c, t c n, d c n));
      covered = λ c l. split c (λ n. omega (arith, all c, was c, near c n, v.covered c n)) (λ n. omega (arith, all c, (far c n).1, t c n, d c n));
    }
  where
    split : {P : Type 0} (c : ℕ) → (c < N → P) → (N ≤ c → P) → P
    split {P} c f h = go (dec_lt c N)
      where
        go : Dec (c < N) → P
        go (yes n) = f n
        go (no n) = h (omega arith)

    all : (c : ℕ) → refs L E fix' tab dat c ≡ fix' c + tabs L tab c + dats L E dat c
    all c = refs_is L E fix' tab dat c

    was : (c : ℕ) → refs L E fix tab dat c ≡ fix c + tabs L tab c + dats L E dat c
    was c = refs_is L E fix tab dat c

-- ---- the longer image
module _ (g : Geo) (K : Codec) (ok : GeoOk g K) (m : ℕ → ℕ → ℕ) (N' B' : ℕ) (K' : Codec) (m' : ℕ → ℕ → ℕ) (a : Appended g K m N' B' K' m') where
  abbrev g' : Geo
  g' = longer g N' B'

  -- the tables, as they were
  l1_kept : (i : ℕ) → i < g.L → l1 g' m' i ≡ l1 g m i
  l1_kept i l = l1_longer g N' B' m' i ∙ a.l1s i l

  tab_kept : (i : ℕ) → i < g.L → tab g' K' m' i ≡ tab g K m i
  unfolding tab
  tab_kept i l = ap K'.clus (l1_kept i l) ∙ a.clus (l1 g m i)

  l2_kept : (i j : ℕ) → i < g.L → j < g.E → tab g K m i ≢ 0 → l2 g' m' (tab g' K' m' i) j ≡ l2 g m (tab g K m i) j
  l2_kept i j l k d = ap (λ (t : ℕ). l2 g' m' t j) (tab_kept i l) ∙ l2_longer g N' B' m' (tab g K m i) j ∙ a.l2s i j l k d

  -- one part of an L2 entry; none where there is no table
  under-kept : (f f' : ℕ → ℕ) → ((e : ℕ) → f' e ≡ f e) → (i j : ℕ) → i < g.L → j < g.E
      → under (tab g' K' m' i) (f' (l2 g' m' (tab g' K' m' i) j)) ≡ under (tab g K m i) (f (l2 g m (tab g K m i) j))
  unfolding under
  under-kept f f' h i j l k = ap (λ (t : ℕ). under t (f' (l2 g' m' (tab g' K' m' i) j))) (tab_kept i l) ∙ go (ℕ_discrete (tab g K m i) 0)
    where
      go : Dec (tab g K m i ≡ 0) → under (tab g K m i) (f' (l2 g' m' (tab g' K' m' i) j)) ≡ under (tab g K m i) (f (l2 g m (tab g K m i) j))
      go (yes z) = rw z refl
      go (no d) = ap (under (tab g K m i)) (ap f' (l2_kept i j l k d) ∙ h (l2 g m (tab g K m i) j))

  dat_kept : (i j : ℕ) → i < g.L → j < g.E → dat g' K' m' i j ≡ dat g K m i j
  unfolding dat
  dat_kept = under-kept K.clus K'.clus a.clus

  mark_kept : (i j : ℕ) → i < g.L → j < g.E → mark g' K' m' i j ≡ mark g K m i j
  unfolding mark
  mark_kept = under-kept K.flag K'.flag a.flag

  blk_kept : (k : ℕ) → k < g.B → blk g' m' k ≡ blk g m k
  unfolding blk
  blk_kept k l = ap (λ (x : ℕ). x / g.C) (a.rts k l)

  blk_new : (k : ℕ) → g.B ≤ k → k < B' → blk g' m' k ≡ k * g.H
  blk_new k l n = blk_longer g N' B' m' k ∙ a.news k l n

  -- what the guest reads
  pub longer-read : (i j x u : ℕ) → i < g.L → j < g.E → x < g.C → gread (longer g N' B') K' m' i j x u ≡ gread g K m i j x u
  unfolding gread
  longer-read i j x u l k n = rw (dat_kept i j l k, mark_kept i j l k) (ap (λ (f : ℕ → ℕ). f u) (shown-same (dat g K m i j) (mark g K m i j) _ _ (a.datas i j x l k n)))

  -- the earlier image was sound
  module _ (s : Sound g K m) where
    -- one of the earlier clusters: every new block lies past it
    fix_near : (c : ℕ) → c < g.N → fix g' m' c ≡ fix g m c
    unfolding fix
    fix_near c near = omega (arith, rooted_longer g N' B' m' c, blocks_near)
      where
        apart : (k : ℕ) → g.B ≤ k → k < B' → c ≢ blk g' m' k
        apart k l n e = omega (arith, ok.blocks, mul-le-mul_right g.H l, blk_new k l n)

        blocks_near : sum_to B' (λ k. same c (blk g' m' k)) ≡ sum_to g.B (λ k. same c (blk g m k))
        blocks_near =
            sum-short B' g.B (λ k. same c (blk g' m' k)) a.most (λ k l n. same_ne c _ (apart k l n))
            ∙ sum_cong g.B _ (λ k. same c (blk g m k)) (λ k l. ap (same c) (blk_kept k l))

    module _ (c : ℕ) (far : g.N ≤ c) where
      -- a block in a later cluster is new, and counts itself
      blk_far : (k : ℕ) → k < B' → c ≡ blk g' m' k → (k ≡ c / g.H) × (1 ≤ cnt g' m' c)
      blk_far k n e = go (dec_lt k g.B)
        where
          go : Dec (k < g.B) → (k ≡ c / g.H) × (1 ≤ cnt g' m' c)
          go (yes l) = absurd (omega (arith, s.blkin k l, blk_kept k l))
          go (no l) =
              let new : g.B ≤ k = omega arith in
              let at : c ≡ k * g.H = e ∙ blk_new k new n in
              (sym (ap (λ (x : ℕ). x / g.H) at ∙ mul-div_cancel k ok.hpos), rw (cnt_longer g N' B' m' c, at) (a.ones k new n))

      -- so at most one lies there
      blocks-far : (sum_to B' (λ k. same c (blk g' m' k)) ≤ 1) × (sum_to B' (λ k. same c (blk g' m' k)) ≤ cnt g' m' c)
      blocks-far = go (dec_lt (c / g.H) B') (ℕ_discrete c (blk g' m' (c / g.H)))
        where
          f : ℕ → ℕ
          f k = same c (blk g' m' k)

          other : (k : ℕ) → k < B' → k ≢ c / g.H → f k ≡ 0
          other k n d = same_ne c _ (λ e. d (blk_far k n e).0)

          none : sum_to B' f ≡ 0 → (sum_to B' f ≤ 1) × (sum_to B' f ≤ cnt g' m' c)
          none z = (omega arith, omega arith)

          go : Dec (c / g.H < B') → Dec (c ≡ blk g' m' (c / g.H)) → (sum_to B' f ≤ 1) × (sum_to B' f ≤ cnt g' m' c)
          go (no d) e = none (sum-zero B' f (λ k n. other k n (λ e. omega arith)))
          go (yes n) (no d) = none (sum_one B' f (c / g.H) n other ∙ same_ne c _ d)
          go (yes n) (yes e) =
              let one : sum_to B' f ≡ 1 = sum_one B' f (c / g.H) n other ∙ same_eq c _ e in
              (omega arith, omega (arith, (blk_far (c / g.H) n e).1))

      fix-far : (fix g' m' c ≤ 1) × (fix g' m' c ≤ cnt g' m' c)
      unfolding fix
      fix-far = (omega (arith, none, blocks-far.0), omega (arith, none, blocks-far.1))
        where
          none : same c 0 + sum_to g.rtn (λ k. same c (g.rtc + k)) + rooted g' c ≡ 0
          none = omega (arith, same_ne c 0 (λ e. omega (arith, ok.npos)), rt_far g K ok m s c far, rooted_longer g N' B' m' c, rooted_far g K ok m s c far)

    longer_inv : Inv N' g.L g.E (tree g) (fix g' m') (tab g' K' m') (dat g' K' m') (cnt g' m')
    longer_inv =
        inv_longer g.N N' g.L g.E (tree g) (fix g m) (fix g' m') (tab g' K' m') (dat g' K' m') (cnt g' m') kept
        fix_near fix-far
        (λ c n. tabs_same g.L (tab g' K' m') (tab g K m) tab_kept c ∙ tabs_far g K ok m s c n)
        (λ c n. dats_same g.L g.E (dat g' K' m') (dat g K m) dat_kept c ∙ dats_far g K ok m s c n)
      where
        kept : Inv g.N g.L g.E (tree g) (fix g m) (tab g' K' m') (dat g' K' m') (cnt g' m')
        kept =
            inv_same g.N g.L g.E (tree g) (fix g m) (tab g K m) (tab g' K' m') (dat g K m) (dat g' K' m') (cnt g m) (cnt g' m') s.inv
            (λ i l. sym (tab_kept i l)) (λ i j l k. sym (dat_kept i j l k)) (λ c l. sym (cnt_longer g N' B' m' c ∙ a.cnts c l))

    -- to the earlier clusters as many references lead
    refs_near : (c : ℕ) → c < g.N → refs_of g' K' m' c ≡ refs_of g K m c
    refs_near c l =
        omega (
          arith,
          refs_is g.L g.E (fix g' m') (tab g' K' m') (dat g' K' m') c,
          refs_is g.L g.E (fix g m) (tab g K m) (dat g K m) c,
          fix_near c l,
          tabs_same g.L (tab g' K' m') (tab g K m) tab_kept c,
          dats_same g.L g.E (dat g' K' m') (dat g K m) dat_kept c,
        )

    blk_in : (k : ℕ) → k < B' → blk g' m' k < N'
    blk_in k n = go (dec_lt k g.B)
      where
        go : Dec (k < g.B) → blk g' m' k < N'
        go (yes l) = omega (arith, blk_kept k l, s.blkin k l, a.more)
        go (no l) = let new : g.B ≤ k = omega arith in omega (arith, blk_new k new n, a.new_in k new n)

    pub longer-sound : Sound (longer g N' B') K' m'
    longer-sound =
        record {
          bytes = a.small;
          blkin = blk_in;
          goods1 = λ i l. rw (l1_kept i l) (a.good1 (l1 g m i) (s.goods1 i l));
          goods2 = λ i j l k d. let d' : tab g K m i ≢ 0 = λ z. d (tab_kept i l ∙ z) in
              rw (l2_kept i j l k d') (a.good2 (l2 g m (tab g K m i) j) (s.goods2 i j l k d'));
          inv = longer_inv;
          mark1 = λ i l n d. rw (l1_kept i l, a.own (l1 g m i), tab_kept i l, refs_near (tab g K m i) (tab_in g K ok m s i l)) (s.mark1 i l n (λ z. d (tab_kept i l ∙ z)));
          mark2 = λ i j l n k d. let q : dat g' K' m' i j ≡ dat g K m i j = dat_kept i j l k in
              let d' : dat g K m i j ≢ 0 = λ z. d (q ∙ z) in
              rw (l2_kept i j l k (λ z. d' (dat_none g K m i j z)), a.own (l2 g m (tab g K m i) j), q, refs_near (dat g K m i j) (dat_in g K ok m s i j l k))
              (s.mark2 i j l n k d');
        }
