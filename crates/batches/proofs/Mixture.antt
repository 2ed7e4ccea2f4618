-- Tables of which each entry is an earlier image's, or new: what is new has no place, the place that it had, or a cluster to which nothing referred in
-- the earlier image and which belongs to that entry alone. Such an image is sound or leaking if its counts cover the references. Assumes nothing.
use mathlib.Core.Path.{◌≡◌, refl, sym, ap, ◌∙◌}
use mathlib.Core.Logic.{◌⊎◌, inl, inr, ◌≢◌}
use Prim.Native.Nat.{ℕ, zero, suc, ◌+◌, ◌*◌, ◌/◌, ◌≤◌, ◌<◌, ◌%◌}
use native.Mathlib.Nat.{le_refl}
use native.Mathlib.Decide.{ℕ_discrete, dec_lt}
use native.Mathlib.Omega.{arith}
use Rattle.cuts.proofs.Sum.{sum_to, sum_cong, sum-le, sum-zero}
use Rattle.cuts.proofs.Refs.{hit, hit_zero, hit_self, hit_other, hit_le, tabs, dats, refs, refs_is, refs_tab, refs_dat, within, within-is, within-not, tree_refs, tree_refs_lem, Inv, free-fix, free_tab, free_dat, refs_fix}
use Rattle.cuts.proofs.Meta.{Geo, GeoOk, Codec, rt, blk, cnt, tree, l1, l2, fix, tab, dat, refs_of, Right, Sound, dat_none, dat_some, row, Has, fix_l1, tree_in, row_in}
use Rattle.cuts.proofs.Step.{fix-same, free-not-0}

-- what a cluster to which nothing refers in the earlier image is for: nothing, the L2 table of L1 entry i, or the data of entry j below it
pub data Use : Type 0 where
  unused : Use
  table : (i : ℕ) → Use
  datum : (i j : ℕ) → Use

-- the uses as numbers, which tells them apart
abbrev pub kind : Use → ℕ
kind unused = 0
kind (table i) = 1
kind (datum i j) = 2

abbrev pub upper : Use → ℕ
upper unused = 0
upper (table i) = i
upper (datum i j) = i

abbrev lower : Use → ℕ
lower unused = 0
lower (table i) = 0
lower (datum i j) = j

pub used_table : (i : ℕ) → table i ≢ unused
used_table i e = omega (arith, ap kind e)

pub used_datum : (i j : ℕ) → datum i j ≢ unused
used_datum i j e = omega (arith, ap kind e)

pub use_or : (u : Use) → (u ≡ unused) ⊎ (u ≢ unused)
use_or unused = inl refl
use_or (table i) = inr (used_table i)
use_or (datum i j) = inr (used_datum i j)

-- a sum with one term at most
pub sum_only : (n : ℕ) (f : ℕ → ℕ) (a : ℕ) → ((i : ℕ) → i < n → i ≢ a → f i ≡ 0) → (a < n → f a ≤ 1) → sum_to n f ≤ 1
unfolding sum_to
sum_only zero f a h l = omega arith
sum_only (suc n) f a h l = go (ℕ_discrete n a) (sum_only n f a (λ i k. h i (omega arith)) (λ k. l (omega arith)))
  where
    go : Dec (n ≡ a) → sum_to n f ≤ 1 → sum_to n f + f n ≤ 1
    go (yes e) r = omega (arith, ap f e, l (omega arith), sum-zero n f (λ i k. h i (omega arith) (λ u. omega arith)))
    go (no d) r = omega (arith, h n (le_refl (suc n)) d)

module _ (g : Geo) (K : Codec) (m : ℕ → ℕ → ℕ) (role : ℕ → Use) where
  -- e is a new value of L1 entry i of the active table, which had no table
  pub record Linked (i e : ℕ) : Type 0 where
    pub active : i < g.M
    pub before : tab g K m i ≡ 0
    pub some : K.clus e ≢ 0
    pub good : K.good1 e
    pub own : K.own e ≡ 1
    pub free : refs_of g K m (K.clus e) ≡ 0
    pub used : role (K.clus e) ≡ table i

  -- where the place of a new value of entry j below L1 entry i can be
  abbrev pub Place : (i j c : ℕ) → Type 0
  Place i j c = (c ≡ 0) ⊎ ((c ≡ dat g K m i j) ⊎ ((refs_of g K m c ≡ 0) × (role c ≡ datum i j)))

  -- e is a new value of that entry
  pub record Put (i j e : ℕ) : Type 0 where
    pub active : i < g.M
    pub good : K.good2 e
    pub own : K.clus e ≢ 0 → K.own e ≡ 1
    pub plain : K.clus e ≢ 0 → K.flag e ≡ 0
    pub left : dat g K m i j ≢ 0 → refs_of g K m (dat g K m i j) ≤ 1
    pub place : Place i j (K.clus e)

  -- or the earlier image's
  pub record Old (i j e : ℕ) : Type 0 where
    pub some : tab g K m i ≢ 0
    pub entry : e ≡ l2 g m (tab g K m i) j

  pub record Mixture (x : ℕ → ℕ → ℕ) : Type 0 where
    pub small : (k o : ℕ) → x k o < 256
    pub rts : (k : ℕ) → k < g.rtn * g.E → rt g x k ≡ rt g m k
    pub l1s : (i : ℕ) → i < g.L → (l1 g x i ≡ l1 g m i) ⊎ Linked i (l1 g x i)
    pub l2s : (i j : ℕ) → i < g.L → j < g.E → tab g K x i ≢ 0 → Old i j (l2 g x (tab g K x i) j) ⊎ Put i j (l2 g x (tab g K x i) j)

-- a new entry that names cluster c
pub put_new_lem : (g : Geo) (K : Codec) (ok : GeoOk g K) (m : ℕ → ℕ → ℕ) (role : ℕ → Use) (i j c : ℕ) → i < g.M → c < g.N → c ≢ 0 → (dat g K m i j ≢ 0 → refs_of g K m (dat g K m i j) ≤ 1)
    → Place g K m role i j c → Put g K m role i j (K.mk c)
put_new_lem g K ok m role i j c act c_n c0 left place =
    record {
      active = act;
      good = ok.laws.mk_good2 c c_n c0;
      own = λ d. ok.laws.mk_own c c_n;
      plain = λ d. ok.laws.mk_flag c c_n;
      left = left;
      place = rw (ok.laws.mk_clus c c_n) place;
    }

-- what is named has a reference, and so has an L1 table
pub named_tab : (g : Geo) (K : Codec) (x : ℕ → ℕ → ℕ) (i : ℕ) → i < g.L → tab g K x i ≢ 0 → 1 ≤ refs_of g K x (tab g K x i)
named_tab g K x i l d = omega (arith, refs_tab g.L g.E (fix g x) (tab g K x) (dat g K x) (tab g K x i) i l, hit_self (tab g K x i) d)

pub named_dat : (g : Geo) (K : Codec) (x : ℕ → ℕ → ℕ) (i j : ℕ) → i < g.L → j < g.E → dat g K x i j ≢ 0 → 1 ≤ refs_of g K x (dat g K x i j)
named_dat g K x i j l k d = omega (arith, refs_dat g.L g.E (fix g x) (tab g K x) (dat g K x) (dat g K x i j) i j l k, hit_self (dat g K x i j) d)

pub row-fix : (g : Geo) (K : Codec) (ok : GeoOk g K) (x : ℕ → ℕ → ℕ) (i : ℕ) → i < g.L → Has g i → 1 ≤ fix g x (row g i)
row-fix g K ok x i l hi = fix_l1 g x (row g i) (i / g.M) (i % g.M / g.E) (omega (arith, tree_in g K ok i l)) (row_in g K ok i l hi) refl

pub free-row : (g : Geo) (K : Codec) (ok : GeoOk g K) (x : ℕ → ℕ → ℕ) (i : ℕ) → i < g.L → Has g i → (u : ℕ) → refs_of g K x u ≡ 0 → u ≢ row g i
free-row g K ok x i l hi u z e = omega (arith, z, ap (refs_of g K x) e, row-fix g K ok x i l hi, refs_fix g.L g.E (fix g x) (tab g K x) (dat g K x) (row g i))

module _ (g : Geo) (K : Codec) (ok : GeoOk g K) (m x : ℕ → ℕ → ℕ) (role : ℕ → Use) (s : Sound g K m) (w : Mixture g K m role x) where
  mix_blk : (k : ℕ) → k < g.B → blk g x k ≡ blk g m k
  unfolding blk
  mix_blk k l = ap (λ (n : ℕ). n / g.C) (w.rts k (omega (arith, ok.rtfit)))

  mix_fix : fix g x ≡ fix g m
  mix_fix = fix-same g m x mix_blk

  -- a table of the earlier image stays
  pub mix_tab : (i : ℕ) → i < g.L → tab g K m i ≢ 0 → (l1 g x i ≡ l1 g m i) × (tab g K x i ≡ tab g K m i)
  unfolding tab
  mix_tab i l d = go (w.l1s i l)
    where
      go : (l1 g x i ≡ l1 g m i) ⊎ Linked g K m role i (l1 g x i) → (l1 g x i ≡ l1 g m i) × (tab g K x i ≡ tab g K m i)
      go (inl e) = (e, ap K.clus e)
      go (inr k) = absurd (d k.before)

  -- a table where the earlier image has none is new, and nothing referred to it there
  pub mix_new : (i : ℕ) → i < g.L → tab g K m i ≡ 0 → tab g K x i ≢ 0 → Linked g K m role i (l1 g x i)
  unfolding tab
  mix_new i l z d = go (w.l1s i l)
    where
      go : (l1 g x i ≡ l1 g m i) ⊎ Linked g K m role i (l1 g x i) → Linked g K m role i (l1 g x i)
      go (inl e) = absurd (d (ap K.clus e ∙ z))
      go (inr k) = k

  pub mix_free : (i : ℕ) → i < g.L → tab g K m i ≡ 0 → tab g K x i ≢ 0 → refs_of g K m (tab g K x i) ≡ 0
  unfolding tab
  mix_free i l z d = (mix_new i l z d).free

  pub put-place : (i j : ℕ) → tab g K x i ≢ 0 → Put g K m role i j (l2 g x (tab g K x i) j) → Place g K m role i j (dat g K x i j)
  put-place i j d p = rw (dat_some g K x i j d) p.place

  -- ---- a cluster to which something referred
  module _ (c : ℕ) (one : 1 ≤ refs_of g K m c) where
    other : (p : ℕ) → refs_of g K m p ≡ 0 → hit c p ≡ 0
    other p z = hit_other c p (λ e. omega (arith, one, ap (refs_of g K m) e))

    old_tab : (i : ℕ) → i < g.L → hit c (tab g K x i) ≡ hit c (tab g K m i)
    unfolding tab
    old_tab i l = go (w.l1s i l)
      where
        go : (l1 g x i ≡ l1 g m i) ⊎ Linked g K m role i (l1 g x i) → hit c (tab g K x i) ≡ hit c (tab g K m i)
        go (inl e) = ap (λ (n : ℕ). hit c (K.clus n)) e
        go (inr k) = other (tab g K x i) k.free ∙ sym (ap (hit c) k.before ∙ hit_zero c)

    old_dat : (i j : ℕ) → i < g.L → j < g.E → hit c (dat g K x i j) ≤ hit c (dat g K m i j)
    old_dat i j l k = go (ℕ_discrete (tab g K x i) 0)
      where
        placed : Place g K m role i j (dat g K x i j) → hit c (dat g K x i j) ≤ hit c (dat g K m i j)
        placed (inl e) = omega (arith, ap (hit c) e, hit_zero c)
        placed (inr (inl e)) = omega (arith, ap (hit c) e)
        placed (inr (inr e)) = omega (arith, other (dat g K x i j) e.0)

        either : tab g K x i ≢ 0 → Old g K m role i j (l2 g x (tab g K x i) j) ⊎ Put g K m role i j (l2 g x (tab g K x i) j) → hit c (dat g K x i j) ≤ hit c (dat g K m i j)
        either d (inl e) = omega (arith, ap (hit c) (dat_some g K x i j d ∙ ap K.clus e.entry ∙ sym (dat_some g K m i j e.some)))
        either d (inr p) = placed (put-place i j d p)

        go : Dec (tab g K x i ≡ 0) → hit c (dat g K x i j) ≤ hit c (dat g K m i j)
        go (yes z) = omega (arith, ap (hit c) (dat_none g K x i j z), hit_zero c)
        go (no d) = either d (w.l2s i j l k d)

    old_tabs : tabs g.L (tab g K x) c ≡ tabs g.L (tab g K m) c
    unfolding tabs
    old_tabs = sum_cong g.L (λ i. hit c (tab g K x i)) (λ i. hit c (tab g K m i)) old_tab

    old_dats : dats g.L g.E (dat g K x) c ≤ dats g.L g.E (dat g K m) c
    unfolding dats
    old_dats =
        sum-le g.L (λ i. sum_to g.E (λ j. hit c (dat g K x i j))) (λ i. sum_to g.E (λ j. hit c (dat g K m i j)))
        (λ i l. sum-le g.E (λ j. hit c (dat g K x i j)) (λ j. hit c (dat g K m i j)) (λ j k. old_dat i j l k))

    pub old_refs : refs_of g K x c ≤ refs_of g K m c
    old_refs =
        omega (
          arith,
          refs_is g.L g.E (fix g x) (tab g K x) (dat g K x) c,
          refs_is g.L g.E (fix g m) (tab g K m) (dat g K m) c,
          ap (λ (f : ℕ → ℕ). f c) mix_fix,
          old_tabs,
          old_dats,
        )

    -- the same in one tree
    old_tree : (τ : ℕ) → tree_refs g.L g.E (tree g) (tab g K x) (dat g K x) τ c ≤ tree_refs g.L g.E (tree g) (tab g K m) (dat g K m) τ c
    unfolding refs tabs dats
    old_tree τ =
        omega (
          arith,
          sum-le g.L (λ i. hit c (within (tree g) τ i (tab g K x i))) (λ i. hit c (within (tree g) τ i (tab g K m i)))
              (λ i l. inside i (tab g K x i) (tab g K m i) (omega (arith, old_tab i l))),
          sum-le g.L (λ i. sum_to g.E (λ j. hit c (within (tree g) τ i (dat g K x i j)))) (λ i. sum_to g.E (λ j. hit c (within (tree g) τ i (dat g K m i j))))
              (λ i l. sum-le g.E (λ j. hit c (within (tree g) τ i (dat g K x i j))) (λ j. hit c (within (tree g) τ i (dat g K m i j)))
              (λ j k. inside i (dat g K x i j) (dat g K m i j) (old_dat i j l k))),
        )
      where
        inside : (i p q : ℕ) → hit c p ≤ hit c q → hit c (within (tree g) τ i p) ≤ hit c (within (tree g) τ i q)
        inside i p q h = go (ℕ_discrete (tree g i) τ)
          where
            go : Dec (tree g i ≡ τ) → hit c (within (tree g) τ i p) ≤ hit c (within (tree g) τ i q)
            go (yes e) = omega (arith, h, ap (hit c) (within-is (tree g) τ i p e), ap (hit c) (within-is (tree g) τ i q e))
            go (no d) = omega (arith, ap (hit c) (within-not (tree g) τ i p d), hit_zero c)

  -- of a cluster with several references every one stays
  many_dat : (c : ℕ) → 2 ≤ refs_of g K m c → (i j : ℕ) → i < g.L → j < g.E → hit c (dat g K x i j) ≡ hit c (dat g K m i j)
  many_dat c two i j l k = go (ℕ_discrete c (dat g K m i j))
    where
      less : hit c (dat g K x i j) ≤ hit c (dat g K m i j)
      less = old_dat c (omega arith) i j l k

      kept : c ≡ dat g K m i j → tab g K m i ≢ 0 → Old g K m role i j (l2 g x (tab g K x i) j) ⊎ Put g K m role i j (l2 g x (tab g K x i) j) → hit c (dat g K x i j) ≡ hit c (dat g K m i j)
      kept e d (inl o) = ap (hit c) (dat_some g K x i j (λ z. d (sym (mix_tab i l d).1 ∙ z)) ∙ ap K.clus o.entry ∙ sym (dat_some g K m i j d))
      kept e d (inr p) = near (ℕ_discrete c 0)
        where
          near : Dec (c ≡ 0) → hit c (dat g K x i j) ≡ hit c (dat g K m i j)
          near (yes z) = omega (arith, less, ap (hit c) (sym e ∙ z), hit_zero c)
          near (no n) = absurd (omega (arith, two, ap (refs_of g K m) e, p.left (λ z. n (e ∙ z))))

      go : Dec (c ≡ dat g K m i j) → hit c (dat g K x i j) ≡ hit c (dat g K m i j)
      go (no n) = omega (arith, less, hit_other c (dat g K m i j) n)
      go (yes e) = here (ℕ_discrete (tab g K m i) 0)
        where
          here : Dec (tab g K m i ≡ 0) → hit c (dat g K x i j) ≡ hit c (dat g K m i j)
          here (yes z) = omega (arith, less, ap (hit c) (dat_none g K m i j z), hit_zero c)
          here (no d) = kept e d (w.l2s i j l k (λ z. d (sym (mix_tab i l d).1 ∙ z)))

  pub many_refs : (c : ℕ) → 2 ≤ refs_of g K m c → refs_of g K x c ≡ refs_of g K m c
  unfolding dats
  many_refs c two =
      omega (
        arith,
        refs_is g.L g.E (fix g x) (tab g K x) (dat g K x) c,
        refs_is g.L g.E (fix g m) (tab g K m) (dat g K m) c,
        ap (λ (f : ℕ → ℕ). f c) mix_fix,
        old_tabs c (omega arith),
        sum_cong g.L (λ i. sum_to g.E (λ j. hit c (dat g K x i j))) (λ i. sum_to g.E (λ j. hit c (dat g K m i j)))
            (λ i l. sum_cong g.E (λ j. hit c (dat g K x i j)) (λ j. hit c (dat g K m i j)) (λ j k. many_dat c two i j l k)),
      )

  -- ---- a cluster to which nothing referred: what it is for alone names it
  module _ (c : ℕ) (none : refs_of g K m c ≡ 0) where
    pub new_tab : (i : ℕ) → i < g.L → c ≡ tab g K x i → c ≢ 0 → role c ≡ table i
    unfolding tab
    new_tab i l e d = go (w.l1s i l)
      where
        go : (l1 g x i ≡ l1 g m i) ⊎ Linked g K m role i (l1 g x i) → role c ≡ table i
        go (inl f) = absurd (free_tab g.L g.E (fix g m) (tab g K m) (dat g K m) c none d i l (e ∙ ap K.clus f))
        go (inr k) = ap role e ∙ k.used

    pub new_dat : (i j : ℕ) → i < g.L → j < g.E → c ≡ dat g K x i j → c ≢ 0 → role c ≡ datum i j
    new_dat i j l k e d = go (w.l2s i j l k some)
      where
        some : tab g K x i ≢ 0
        some z = d (e ∙ dat_none g K x i j z)

        strange : c ≡ dat g K m i j → role c ≡ datum i j
        strange f = absurd (free_dat g.L g.E (fix g m) (tab g K m) (dat g K m) c none d i j l k f)

        placed : Place g K m role i j (dat g K x i j) → role c ≡ datum i j
        placed (inl f) = absurd (d (e ∙ f))
        placed (inr (inl f)) = strange (e ∙ f)
        placed (inr (inr f)) = ap role e ∙ f.1

        go : Old g K m role i j (l2 g x (tab g K x i) j) ⊎ Put g K m role i j (l2 g x (tab g K x i) j) → role c ≡ datum i j
        go (inl o) = strange (e ∙ dat_some g K x i j some ∙ ap K.clus o.entry ∙ sym (dat_some g K m i j o.some))
        go (inr p) = placed (put-place i j some p)

    not_tab : c ≢ 0 → ((i : ℕ) → role c ≢ table i) → tabs g.L (tab g K x) c ≡ 0
    unfolding tabs
    not_tab d n = sum-zero g.L (λ i. hit c (tab g K x i)) (λ i l. hit_other c (tab g K x i) (λ e. n i (new_tab i l e d)))

    not_dat : c ≢ 0 → ((i j : ℕ) → role c ≢ datum i j) → dats g.L g.E (dat g K x) c ≡ 0
    unfolding dats
    not_dat d n =
        sum-zero g.L (λ i. sum_to g.E (λ j. hit c (dat g K x i j)))
        (λ i l. sum-zero g.E (λ j. hit c (dat g K x i j)) (λ j k. hit_other c (dat g K x i j) (λ e. n i j (new_dat i j l k e d))))

    -- it is named once at most, as a table or as data
    pub record Once : Type 0 where
      pub total : tabs g.L (tab g K x) c + dats g.L g.E (dat g K x) c ≤ 1
      pub one : (tabs g.L (tab g K x) c ≡ 0) ⊎ (dats g.L g.E (dat g K x) c ≡ 0)

    once : c ≢ 0 → Once
    unfolding tabs dats
    once d = go (role c) refl
      where
        go : (u : Use) → role c ≡ u → Once
        go unused e =
            let t : tabs g.L (tab g K x) c ≡ 0 = not_tab d (λ i f. omega (arith, ap kind (sym e ∙ f))) in
            let n : dats g.L g.E (dat g K x) c ≡ 0 = not_dat d (λ i j f. omega (arith, ap kind (sym e ∙ f))) in
            record { total = omega (arith, t, n); one = inl t }
        go (table a) e =
            let n : dats g.L g.E (dat g K x) c ≡ 0 = not_dat d (λ i j f. omega (arith, ap kind (sym e ∙ f))) in
            let t : sum_to g.L (λ i. hit c (tab g K x i)) ≤ 1 =
            sum_only g.L (λ i. hit c (tab g K x i)) a (λ i l f. hit_other c (tab g K x i) (λ h. f (ap upper (sym (new_tab i l h d) ∙ e)))) (λ l. hit_le c (tab g K x a)) in
            record { total = omega (arith, t, n); one = inr n }
        go (datum a b) e =
            let t : tabs g.L (tab g K x) c ≡ 0 = not_tab d (λ i f. omega (arith, ap kind (sym e ∙ f))) in
            let n : sum_to g.L (λ i. sum_to g.E (λ j. hit c (dat g K x i j))) ≤ 1 =
            sum_only g.L (λ i. sum_to g.E (λ j. hit c (dat g K x i j))) a
            (λ i l f. sum-zero g.E (λ j. hit c (dat g K x i j)) (λ j k. hit_other c (dat g K x i j) (λ h. f (ap upper (sym (new_dat i j l k h d) ∙ e)))))
            (λ l. sum_only g.E (λ j. hit c (dat g K x a j)) b (λ j k f. hit_other c (dat g K x a j) (λ h. f (ap lower (sym (new_dat a j l k h d) ∙ e)))) (λ k. hit_le c (dat g K x a b))) in
            record { total = omega (arith, t, n); one = inl t }

    pub new_refs : c ≢ 0 → refs_of g K x c ≤ 1
    new_refs d =
        omega (
          arith,
          refs_is g.L g.E (fix g x) (tab g K x) (dat g K x) c,
          ap (λ (f : ℕ → ℕ). f c) mix_fix,
          free-fix g.L g.E (fix g m) (tab g K m) (dat g K m) c none d,
          (once d).total,
        )

    -- it is named by nothing if it is for nothing
    pub unused_refs : c ≢ 0 → role c ≡ unused → refs_of g K x c ≡ 0
    unused_refs d e =
        omega (
          arith,
          refs_is g.L g.E (fix g x) (tab g K x) (dat g K x) c,
          ap (λ (f : ℕ → ℕ). f c) mix_fix,
          free-fix g.L g.E (fix g m) (tab g K m) (dat g K m) c none d,
          not_tab d (λ i f. omega (arith, ap kind (sym e ∙ f))),
          not_dat d (λ i j f. omega (arith, ap kind (sym e ∙ f))),
        )

  -- ---- the image is sound or leaking
  module _ (cov : (c : ℕ) → c < g.N → refs_of g K x c ≤ cnt g x c) where
    mix_inv : Inv g.N g.L g.E (tree g) (fix g x) (tab g K x) (dat g K x) (cnt g x)
    mix_inv = record { fixed = λ c l f. at-fixed c l f (dec_lt 0 (refs_of g K m c)); roles = λ c l. at_roles c l (dec_lt 0 (refs_of g K m c)); once = λ τ c l. at_once τ c l (dec_lt 0 (refs_of g K m c)); covered = cov }
      where
        not-0 : (c : ℕ) → refs_of g K m c ≡ 0 → c ≢ 0
        not-0 c z = free-not-0 g K ok m s c z

        at-fixed : (c : ℕ) → c < g.N → 1 ≤ fix g x c → Dec (0 < refs_of g K m c) → refs_of g K x c ≤ 1
        at-fixed c l f (yes h) = omega (arith, old_refs c h, s.inv.fixed c l (rw (ap (λ (k : ℕ → ℕ). k c) mix_fix) at f))
        at-fixed c l f (no n) = new_refs c (omega arith) (not-0 c (omega arith))

        at_roles : (c : ℕ) → c < g.N → Dec (0 < refs_of g K m c) → (tabs g.L (tab g K x) c ≡ 0) ⊎ (dats g.L g.E (dat g K x) c ≡ 0)
        at_roles c l (no n) = (once c (omega arith) (not-0 c (omega arith))).one
        at_roles c l (yes h) = go (s.inv.roles c l)
          where
            go : (tabs g.L (tab g K m) c ≡ 0) ⊎ (dats g.L g.E (dat g K m) c ≡ 0) → (tabs g.L (tab g K x) c ≡ 0) ⊎ (dats g.L g.E (dat g K x) c ≡ 0)
            go (inl e) = inl (old_tabs c h ∙ e)
            go (inr e) = inr (omega (arith, old_dats c h, e))

        at_once : (τ c : ℕ) → c < g.N → Dec (0 < refs_of g K m c) → tree_refs g.L g.E (tree g) (tab g K x) (dat g K x) τ c ≤ 1
        at_once τ c l (yes h) = omega (arith, old_tree c h τ, s.inv.once τ c l)
        at_once τ c l (no n) = omega (arith, tree_refs_lem g.L g.E (tree g) (fix g x) (tab g K x) (dat g K x) τ c, new_refs c (omega arith) (not-0 c (omega arith)))

    -- one reference stays one, and several stay several
    kept-one : (c o : ℕ) → 1 ≤ refs_of g K m c → 1 ≤ refs_of g K x c → Right o (refs_of g K m c) → Right o (refs_of g K x c)
    kept-one c o old new r = go (dec_lt 1 (refs_of g K m c))
      where
        go : Dec (1 < refs_of g K m c) → Right o (refs_of g K x c)
        go (yes h) = rw (many_refs c h) r
        go (no n) = let e : refs_of g K x c ≡ refs_of g K m c = omega (arith, old_refs c old) in rw e r

    -- a new cluster that is named has one reference
    one_new : (c : ℕ) → refs_of g K m c ≡ 0 → 1 ≤ refs_of g K x c → refs_of g K x c ≡ 1
    one_new c z h = omega (arith, h, new_refs c z (free-not-0 g K ok m s c z))

    right-one : (o r : ℕ) → o ≡ 1 → r ≡ 1 → Right o r
    right-one o r e f = ((λ h. f), (λ h. e))

    mix_mark1 : (i : ℕ) → i < g.L → i < g.M → tab g K x i ≢ 0 → Right (K.own (l1 g x i)) (refs_of g K x (tab g K x i))
    unfolding tab
    mix_mark1 i l n d = go (w.l1s i l)
      where
        go : (l1 g x i ≡ l1 g m i) ⊎ Linked g K m role i (l1 g x i) → Right (K.own (l1 g x i)) (refs_of g K x (tab g K x i))
        go (inl e) =
            let t : tab g K x i ≡ tab g K m i = ap K.clus e in
            let d' : tab g K m i ≢ 0 = λ z. d (t ∙ z) in
            let h : 1 ≤ refs_of g K m (tab g K m i) = named_tab g K m i l d' in
            let v : 1 ≤ refs_of g K x (tab g K m i) = rw t at (named_tab g K x i l d) in
            rw (e, t) (kept-one (tab g K m i) (K.own (l1 g m i)) h v (s.mark1 i l n d'))
        go (inr k) = right-one (K.own (l1 g x i)) (refs_of g K x (tab g K x i)) k.own (one_new (tab g K x i) k.free (named_tab g K x i l d))

    mix_mark2 : (i j : ℕ) → i < g.L → i < g.M → j < g.E → dat g K x i j ≢ 0 → Right (K.own (l2 g x (tab g K x i) j)) (refs_of g K x (dat g K x i j))
    mix_mark2 i j l n k d = go (w.l2s i j l k some)
      where
        some : tab g K x i ≢ 0
        some z = d (dat_none g K x i j z)

        placed : Put g K m role i j (l2 g x (tab g K x i) j)
            → Place g K m role i j (dat g K x i j)
            → refs_of g K x (dat g K x i j) ≡ 1
        placed p (inl e) = absurd (d e)
        placed p (inr (inl e)) =
            let d' : dat g K m i j ≢ 0 = λ z. d (e ∙ z) in
            let h : 1 ≤ refs_of g K m (dat g K m i j) = named_dat g K m i j l k d' in
            let v : 1 ≤ refs_of g K x (dat g K m i j) = rw e at (named_dat g K x i j l k d) in
            rw e (omega (arith, v, h, p.left d', old_refs (dat g K m i j) h))
        placed p (inr (inr e)) = one_new (dat g K x i j) e.0 (named_dat g K x i j l k d)

        go : Old g K m role i j (l2 g x (tab g K x i) j) ⊎ Put g K m role i j (l2 g x (tab g K x i) j) → Right (K.own (l2 g x (tab g K x i) j)) (refs_of g K x (dat g K x i j))
        go (inl o) =
            let e : dat g K x i j ≡ dat g K m i j = dat_some g K x i j some ∙ ap K.clus o.entry ∙ sym (dat_some g K m i j o.some) in
            let d' : dat g K m i j ≢ 0 = λ z. d (e ∙ z) in
            let h : 1 ≤ refs_of g K m (dat g K m i j) = named_dat g K m i j l k d' in
            let v : 1 ≤ refs_of g K x (dat g K m i j) = rw e at (named_dat g K x i j l k d) in
            rw (o.entry, e) (kept-one (dat g K m i j) (K.own (l2 g m (tab g K m i) j)) h v (s.mark2 i j l n k d'))
        go (inr p) = right-one (K.own (l2 g x (tab g K x i) j)) (refs_of g K x (dat g K x i j)) (p.own (λ z. d (dat_some g K x i j some ∙ z))) (placed p (put-place i j some p))

    pub mix_sound : Sound g K x
    mix_sound =
        record {
          bytes = w.small;
          blkin = λ k l. rw (mix_blk k l) (s.blkin k l);
          goods1 = λ i l. first i l (w.l1s i l);
          goods2 = λ i j l k d. second i j l k (w.l2s i j l k d);
          inv = mix_inv;
          mark1 = mix_mark1;
          mark2 = mix_mark2;
        }
      where
        first : (i : ℕ) → i < g.L → (l1 g x i ≡ l1 g m i) ⊎ Linked g K m role i (l1 g x i) → K.good1 (l1 g x i)
        first i l (inl e) = rw e (s.goods1 i l)
        first i l (inr k) = k.good

        second : (i j : ℕ) → i < g.L → j < g.E → Old g K m role i j (l2 g x (tab g K x i) j) ⊎ Put g K m role i j (l2 g x (tab g K x i) j) → K.good2 (l2 g x (tab g K x i) j)
        second i j l k (inl o) = rw o.entry (s.goods2 i j l k o.some)
        second i j l k (inr p) = p.good
