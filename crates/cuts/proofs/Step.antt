-- Each kind of store keeps an image sound or leaking, and what the guest reads after it. Assumes nothing.
use mathlib.Core.Path.{◌≡◌, refl, sym, ap, ap₂, ◌∙◌, fun_ext}
use mathlib.Core.Logic.{◌⊎◌, inl, inr, ◌≢◌}
use Prim.Native.Nat.{ℕ, zero, suc, ◌+◌, ◌-◌, ◌*◌, ◌/◌, ◌%◌, ◌^◌, ◌≤◌, ◌<◌}
use native.Mathlib.Nat.{suc-ne-zero, div-lt_iff_lt-mul, mod-lt, mod-eq_of_lt, div-add-mod', mul-le-mul_left}
use native.Mathlib.Decide.{ℕ_discrete, dec_lt}
use native.Mathlib.Omega.{arith}
use lib.ListN.{length, get_or}
use Rattle.widths.specs.Width.{span}
use Rattle.cuts.proofs.Refs.{hit, hit_self, hit_other, not_hit, refs, refs_same, refs_entry, refs_link, Inv, inv_same, inv_entry, inv_link, refs_fix, refs_dat, dat_fix, dat_tab, dat_dat, tab_fix, tab_tab, tab_dat, fix_tab, fix_dat, free-fix, free_tab, free_dat}
use Rattle.cuts.proofs.Cell.{num, enc, length-enc, cell, recell, length_recell, cell_new, cell_other, Stored, stored_num, stored-cluster, stored-apart}
use Rattle.cuts.proofs.Meta.{Geo, GeoOk, Codec, rt, blk, cnt, tree, row, col, Has, l1, l1_some, l1_none, l2, fix, tab, dat, mark, refs_of, Right, Sound, Keep, dat_none, dat_some, mark_none, mark_some, keep_blk, keep_tab, keep_sound, Off, l2_off, rt_off, l1_off, cell_in, cnt_off, fix-0, fix_rt, fix_l1, fix_blk, blk_0, blk_rt, blk_l1, blk_blk, rt_0, l1_0, l1_rt, l1_l1, tree_in, row_in, row-N, same}
use Rattle.cuts.proofs.Sum.{sum_cong}

-- what the guest sees of the byte b, in cluster d, under a zero mark f, where the byte u lies underneath
unfoldable pub shown : ℕ → ℕ → ℕ → ℕ → ℕ
shown d (suc f) b = λ u. 0
shown zero zero b = λ u. u
shown (suc d) zero b = λ u. b

-- with no cluster its byte is none
pub shown-same : (d f b b' : ℕ) → (d ≢ 0 → b ≡ b') → shown d f b ≡ shown d f b'
unfolding shown
shown-same d (suc f) b b' h = refl
shown-same zero zero b b' h = refl
shown-same (suc d) zero b b' h = λ q u. h (suc-ne-zero d) q

module _ (g : Geo) (K : Codec) where
  -- the guest's byte at offset x of the cluster that L1 entry i and L2 entry j stand for, by the byte that lies underneath
  unfoldable pub gread : (ℕ → ℕ → ℕ) → ℕ → ℕ → ℕ → ℕ → ℕ
  unfolding shown
  gread m i j x = shown (dat g K m i j) (mark g K m i j) (m (dat g K m i j) x)

  pub gread_none : (m : ℕ → ℕ → ℕ) (i j x : ℕ) → dat g K m i j ≡ 0 → mark g K m i j ≡ 0 → gread m i j x ≡ (λ u. u)
  unfolding gread shown
  gread_none m i j x e f = ap₂ (λ (d v : ℕ). shown d v (m (dat g K m i j) x)) e f

  pub gread_absent : (m : ℕ → ℕ → ℕ) (i j x : ℕ) → tab g K m i ≡ 0 → gread m i j x ≡ (λ u. u)
  gread_absent m i j x z = gread_none m i j x (dat_none g K m i j z) (mark_none g K m i j z)

module _ (g : Geo) (K : Codec) (ok : GeoOk g K) (m m' : ℕ → ℕ → ℕ) where
  -- the guest's byte is kept where the entry is, and the data cluster's byte
  pub gread_same : (i j x : ℕ) → tab g K m' i ≡ tab g K m i → (tab g K m i ≢ 0 → l2 g m' (tab g K m i) j ≡ l2 g m (tab g K m i) j)
      → (dat g K m i j ≢ 0 → m' (dat g K m i j) x ≡ m (dat g K m i j) x) → gread g K m' i j x ≡ gread g K m i j x
  unfolding gread
  gread_same i j x t e b = go (ℕ_discrete (tab g K m i) 0)
    where
      go : Dec (tab g K m i ≡ 0) → gread g K m' i j x ≡ gread g K m i j x
      go (yes z) = gread_absent g K m' i j x (t ∙ z) ∙ sym (gread_absent g K m i j x z)
      go (no n) = rw (same_dat, same_mark) (shown-same (dat g K m i j) (mark g K m i j) _ _ b)
        where
          same-entry : l2 g m' (tab g K m' i) j ≡ l2 g m (tab g K m i) j
          same-entry = ap (λ (y : ℕ). l2 g m' y j) t ∙ e n

          same_dat : dat g K m' i j ≡ dat g K m i j
          same_dat = dat_some g K m' i j (λ z. n (sym t ∙ z)) ∙ ap K.clus same-entry ∙ sym (dat_some g K m i j n)

          same_mark : mark g K m' i j ≡ mark g K m i j
          same_mark = mark_some g K m' i j (λ z. n (sym t ∙ z)) ∙ ap K.flag same-entry ∙ sym (mark_some g K m i j n)

  pub gread_keep : Keep g K m m' → (i j x : ℕ) → i < g.L → j < g.E → (dat g K m i j ≢ 0 → m' (dat g K m i j) x ≡ m (dat g K m i j) x)
      → gread g K m' i j x ≡ gread g K m i j x
  gread_keep e i j x l k b = gread_same i j x (keep_tab g K ok m m' e i l) (e.l2s i j l k) b

  -- a change in a cluster that is no fixed one and no table
  pub off_keep : ((k x : ℕ) → m' k x < 256) → (w : ℕ) → Off g.C m m' w → fix g m w ≡ 0 → ((i : ℕ) → i < g.L → w ≢ tab g K m i)
      → Keep g K m m' × ((c : ℕ) → c < g.N → cnt g m' c ≡ cnt g m c)
  off_keep small w off f t = (kp, λ c l. cnt_off g K ok m m' w off (keep_blk g K ok m m' kp) c l (λ e. nb (c / g.H) ((div-lt_iff_lt-mul ok.hpos).1 (omega (arith, ok.blocks))) (sym e)))
    where
      nb : (k : ℕ) → k < g.B → w ≢ blk g m k
      nb k l e = omega (arith, fix_blk g m w k l e)

      kp : Keep g K m m'
      kp = record {
        small = small;
        rts = rt_off g K ok m m' w off (λ k l e. omega (arith, fix_rt g m w k l e));
        l1s = l1_off g K ok m m' w off (λ t k l n e. omega (arith, fix_l1 g m w t k l n e));
        l2s = λ i j l k d. l2_off g K ok m m' w off (tab g K m i) j k (λ e. t i l (sym e));
      }

-- nothing that a reader of the tables or the guest could see differs
pub record Quiet (g : Geo) (K : Codec) (m m' : ℕ → ℕ → ℕ) : Type 0 where
  pub keep : Keep g K m m'
  pub cnts : (c : ℕ) → c < g.N → cnt g m' c ≡ cnt g m c
  pub reads : (i j x : ℕ) → i < g.L → j < g.E → x < g.C → gread g K m' i j x ≡ gread g K m i j x

pub split_index : (E a b : ℕ) → a ≢ b → (a / E ≢ b / E) ⊎ (a % E ≢ b % E)
split_index E a b d = go (ℕ_discrete (a / E) (b / E))
  where
    go : Dec (a / E ≡ b / E) → (a / E ≢ b / E) ⊎ (a % E ≢ b % E)
    go (no n) = inl n
    go (yes e) = inr (λ f. d (sym (div-add-mod' a E) ∙ ap₂ (λ (x y : ℕ). x * E + y) e f ∙ div-add-mod' b E))

-- one pair of indices, or another
pub pair_or : (a b i j : ℕ) → ((a ≡ i) × (b ≡ j)) ⊎ ((a ≢ i) ⊎ (b ≢ j))
pair_or a b i j = go (ℕ_discrete a i) (ℕ_discrete b j)
  where
    go : Dec (a ≡ i) → Dec (b ≡ j) → ((a ≡ i) × (b ≡ j)) ⊎ ((a ≢ i) ⊎ (b ≢ j))
    go (yes e) (yes f) = inl (e, f)
    go (yes e) (no d) = inr (inr d)
    go (no d) f = inr (inl d)

pub fix-same : (g : Geo) (m m' : ℕ → ℕ → ℕ) → ((k : ℕ) → k < g.B → blk g m' k ≡ blk g m k) → fix g m' ≡ fix g m
unfolding fix
fix-same g m m' e = fun_ext (λ c. omega (arith, sum_cong g.B (λ k. same c (blk g m' k)) (λ k. same c (blk g m k)) (λ k l. ap (same c) (e k l))))

-- two places of a table of numbers of k bytes
pub steps_apart : (k a b n : ℕ) → n ≡ k → a ≢ b → (k * a + k ≤ k * b) ⊎ (k * b + n ≤ k * a)
steps_apart k a b n e d = go (dec_lt a b)
  where
    go : Dec (a < b) → (k * a + k ≤ k * b) ⊎ (k * b + n ≤ k * a)
    go (yes l) = inl (omega (arith, mul-le-mul_left k l))
    go (no l) = let h : b < a = omega arith in inr (omega (arith, mul-le-mul_left k h))

module _ (g : Geo) (K : Codec) (ok : GeoOk g K) (m : ℕ → ℕ → ℕ) (s : Sound g K m) where
  pub tab_in : (i : ℕ) → i < g.L → tab g K m i < g.N
  unfolding tab
  tab_in i l = ok.laws.in1 (l1 g m i) (s.goods1 i l)

  pub dat_in : (i j : ℕ) → i < g.L → j < g.E → dat g K m i j < g.N
  dat_in i j l k = go (ℕ_discrete (tab g K m i) 0)
    where
      go : Dec (tab g K m i ≡ 0) → dat g K m i j < g.N
      go (yes z) = rw (dat_none g K m i j z) ok.npos
      go (no d) = rw (dat_some g K m i j d) (ok.laws.in2 (l2 g m (tab g K m i) j) (s.goods2 i j l k d))

  pub fix_one : (c : ℕ) → c < g.N → fix g m c ≤ 1
  fix_one c l = go (dec_lt 0 (fix g m c))
    where
      go : Dec (0 < fix g m c) → fix g m c ≤ 1
      go (yes h) = omega (arith, s.inv.fixed c l h, refs_fix g.L g.E (fix g m) (tab g K m) (dat g K m) c)
      go (no n) = omega arith

  -- a cluster that nothing refers to
  pub free-not-0 : (w : ℕ) → refs_of g K m w ≡ 0 → w ≢ 0
  free-not-0 w f z = omega (arith, fix-0 g m w z, refs_fix g.L g.E (fix g m) (tab g K m) (dat g K m) w)

  module _ (m' : ℕ → ℕ → ℕ) (small : (k x : ℕ) → m' k x < 256) where
    pub quiet_sound : Quiet g K m m' → Sound g K m'
    quiet_sound q = keep_sound g K ok m m' s q.keep (λ c l. omega (arith, s.inv.covered c l, q.cnts c l))

    pub free_step : (w : ℕ) → refs_of g K m w ≡ 0 → Off g.C m m' w → Quiet g K m m'
    free_step w f off =
        record {
          keep = k.0;
          cnts = k.1;
          reads = λ i j x l n h. gread_keep g K ok m m' k.0 i j x l n
              (λ d. off (dat g K m i j) x h (λ e. free_dat g.L g.E (fix g m) (tab g K m) (dat g K m) w f (free-not-0 w f) i j l n (sym e)));
        }
      where
        k : Keep g K m m' × ((c : ℕ) → c < g.N → cnt g m' c ≡ cnt g m c)
        k = off_keep g K ok m m' small w off (free-fix g.L g.E (fix g m) (tab g K m) (dat g K m) w f (free-not-0 w f))
            (free_tab g.L g.E (fix g m) (tab g K m) (dat g K m) w f (free-not-0 w f))

    -- the header's cluster: no table, block or data lies there
    pub head_step : Off g.C m m' 0 → Quiet g K m m'
    head_step off =
        record {
          keep = k;
          cnts = λ c l. cnt_off g K ok m m' 0 off (keep_blk g K ok m m' k) c l
              (λ e. blk_0 g m 0 (c / g.H) ((div-lt_iff_lt-mul ok.hpos).1 (omega (arith, ok.blocks))) one (sym e) refl);
          reads = λ i j x l n h. gread_keep g K ok m m' k i j x l n (λ d. off (dat g K m i j) x h d);
        }
      where
        one : fix g m 0 ≤ 1
        one = fix_one 0 ok.npos

        k : Keep g K m m'
        k = record {
          small = small;
          rts = rt_off g K ok m m' 0 off (λ a l e. rt_0 g m 0 a l one e refl);
          l1s = l1_off g K ok m m' 0 off (λ t a l n e. l1_0 g m 0 t a l n one e refl);
          l2s = λ i j l n d. l2_off g K ok m m' 0 off (tab g K m i) j n d;
        }

    -- the data cluster of one entry, to which nothing else refers
    pub data_step : (i j : ℕ) → i < g.L → j < g.E → dat g K m i j ≢ 0 → refs_of g K m (dat g K m i j) ≤ 1 → Off g.C m m' (dat g K m i j)
        → Keep g K m m' × ((c : ℕ) → c < g.N → cnt g m' c ≡ cnt g m c)
        × ((a b x : ℕ) → a < g.L → b < g.E → x < g.C → (a ≢ i) ⊎ (b ≢ j) → gread g K m' a b x ≡ gread g K m a b x)
    data_step i j l n d one off = (k.0, k.1, rest)
      where
        w : ℕ
        w = dat g K m i j

        k : Keep g K m m' × ((c : ℕ) → c < g.N → cnt g m' c ≡ cnt g m c)
        k = off_keep g K ok m m' small (dat g K m i j) off
            (dat_fix g.L g.E (fix g m) (tab g K m) (dat g K m) i j l n d one)
            (λ a p. dat_tab g.L g.E (fix g m) (tab g K m) (dat g K m) i j a l n p d one)

        rest : (a b x : ℕ) → a < g.L → b < g.E → x < g.C → (a ≢ i) ⊎ (b ≢ j) → gread g K m' a b x ≡ gread g K m a b x
        rest a b x p q h o = gread_keep g K ok m m' k.0 a b x p q
            (λ z. off (dat g K m a b) x h
            (λ e. dat_dat g.L g.E (fix g m) (tab g K m) (dat g K m) i j a b l n p q o d one (sym e)))

    -- one count
    pub count-step : (c v : ℕ) → c < g.N → v < 2 ^ g.W
        → Stored g.C m m' (blk g m (c / g.H)) (g.W * (c % g.H) / 8) (recell g.W (m (blk g m (c / g.H))) (g.W * (c % g.H)) v)
        → Keep g K m m' × (cnt g m' c ≡ v) × ((x : ℕ) → x < g.N → x ≢ c → cnt g m' x ≡ cnt g m x)
        × ((i j x : ℕ) → i < g.L → j < g.E → x < g.C → gread g K m' i j x ≡ gread g K m i j x)
    unfolding cnt
    count-step c v l small-v st = (
      kp,
      ap (λ (b : ℕ). cell g.W (m' b) p) (keep_blk g K ok m m' kp (c / g.H) (in_b c l))
          ∙ cell_new g.C g.W (m w) (m' w) p v (ok.fit (c % g.H)) held around ∙ mod-eq_of_lt small-v,
      other,
      seen,
    )
      where
        w : ℕ
        w = blk g m (c / g.H)

        p : ℕ
        p = g.W * (c % g.H)

        long : length (recell g.W (m w) p v) ≡ span g.W
        long = length_recell g.W (m w) p v

        held : (x : ℕ) → x < span g.W → m' w (p / 8 + x) ≡ get_or (recell g.W (m w) p v) x 0
        held x h = st.inside x (omega (arith, long))

        around : (x : ℕ) → x < g.C → (x < p / 8) ⊎ (p / 8 + span g.W ≤ x) → m' w x ≡ m w x
        around x h (inl d) = st.before w x h d
        around x h (inr d) = st.after w x h (omega (arith, long))

        in_b : (x : ℕ) → x < g.N → x / g.H < g.B
        in_b x h = (div-lt_iff_lt-mul ok.hpos).1 (omega (arith, ok.blocks))

        w_n : w < g.N
        w_n = s.blkin (c / g.H) (in_b c l)

        w0 : w ≢ 0
        w0 = blk_0 g m w (c / g.H) (in_b c l) (fix_one w w_n) refl

        wf : 1 ≤ fix g m w
        wf = fix_blk g m w (c / g.H) (in_b c l) refl

        kp : Keep g K m m'
        kp = record {
          small = small;
          rts = rt_off g K ok m m' w st.cluster (λ k h. blk_rt g m w (c / g.H) k (in_b c l) h (fix_one w w_n) refl);
          l1s = l1_off g K ok m m' w st.cluster (λ t k h o. blk_l1 g m w (c / g.H) t k (in_b c l) h o (fix_one w w_n) refl);
          l2s = λ i j h n d. l2_off g K ok m m' w st.cluster (tab g K m i) j n
              (λ e. fix_tab g.L g.E (fix g m) (tab g K m) (dat g K m) w i h w0 (s.inv.fixed w w_n wf) wf (sym e));
        }

        other : (x : ℕ) → x < g.N → x ≢ c → cnt g m' x ≡ cnt g m x
        other x h d = go (split_index g.H x c d)
          where
            q : ℕ
            q = g.W * (x % g.H)

            away : x / g.H ≢ c / g.H → cnt g m' x ≡ cnt g m x
            away n = cnt_off g K ok m m' w st.cluster (keep_blk g K ok m m' kp) x h (λ e. blk_blk g m w (c / g.H) (x / g.H) (in_b c l) (in_b x h) n (fix_one w w_n) refl (sym e))

            -- in the same block, perhaps in the same byte
            near : Dec (x / g.H ≡ c / g.H) → x % g.H ≢ c % g.H → cnt g m' x ≡ cnt g m x
            near (no n) d = away n
            near (yes e) d =
                ap (λ (b : ℕ). cell g.W (m' b) q) (keep_blk g K ok m m' kp (x / g.H) (in_b x h) ∙ ap (blk g m) e)
                ∙ cell_other g.C g.W (m w) (m' w) p v (ok.fit (c % g.H)) held around ok.even q (ok.fit (x % g.H))
                (cell_in g K ok m m' w st.cluster (x % g.H) (mod-lt x ok.hpos)) (steps_apart g.W (c % g.H) (x % g.H) g.W refl (λ y. d (sym y)))
                ∙ ap (λ (b : ℕ). cell g.W (m (blk g m b)) q) (sym e)

            go : (x / g.H ≢ c / g.H) ⊎ (x % g.H ≢ c % g.H) → cnt g m' x ≡ cnt g m x
            go (inl n) = away n
            go (inr n) = near (ℕ_discrete (x / g.H) (c / g.H)) n

        seen : (i j x : ℕ) → i < g.L → j < g.E → x < g.C → gread g K m' i j x ≡ gread g K m i j x
        seen i j x h n b = gread_keep g K ok m m' kp i j x h n (λ d. st.cluster (dat g K m i j) x b
            (λ e. fix_dat g.L g.E (fix g m) (tab g K m) (dat g K m) w i j h n w0 (s.inv.fixed w w_n wf) wf (sym e)))

    -- one L2 entry, in a table to which nothing else refers
    module _ (i j v : ℕ) (l : i < g.L) (k : j < g.E) (t : tab g K m i ≢ 0) (one : refs_of g K m (tab g K m i) ≤ 1) (gv : K.good2 v) (lv : v < 256 ^ 8)
        (st : Stored g.C m m' (tab g K m i) (8 * j) (enc 8 v)) where
      entry-fix : fix g m (tab g K m i) ≡ 0
      entry-fix = tab_fix g.L g.E (fix g m) (tab g K m) (dat g K m) i l t one

      pub entry_rt : (a : ℕ) → a < g.rtn * g.E → rt g m' a ≡ rt g m a
      entry_rt = rt_off g K ok m m' (tab g K m i) st.cluster (λ a h e. omega (arith, entry-fix, fix_rt g m (tab g K m i) a h e))

      pub entry_blk : (a : ℕ) → a < g.B → blk g m' a ≡ blk g m a
      unfolding blk
      entry_blk a h = ap (λ (x : ℕ). x / g.C) (entry_rt a (omega (arith, ok.rtfit)))

      pub entry_l1 : (a : ℕ) → a < g.L → l1 g m' a ≡ l1 g m a
      entry_l1 = l1_off g K ok m m' (tab g K m i) st.cluster (λ u a h o e. omega (arith, entry-fix, fix_l1 g m (tab g K m i) u a h o e))

      pub entry_tab : (a : ℕ) → a < g.L → tab g K m' a ≡ tab g K m a
      unfolding tab
      entry_tab a h = ap K.clus (entry_l1 a h)

      pub entry_cnt : (c : ℕ) → c < g.N → cnt g m' c ≡ cnt g m c
      entry_cnt c h = cnt_off g K ok m m' (tab g K m i) st.cluster entry_blk c h
          (λ e. omega (arith, entry-fix, fix_blk g m (tab g K m i) (c / g.H) ((div-lt_iff_lt-mul ok.hpos).1 (omega (arith, ok.blocks))) (sym e)))

      pub entry_l2 : (a b : ℕ) → a < g.L → b < g.E → (a ≢ i) ⊎ (b ≢ j) → tab g K m a ≢ 0 → l2 g m' (tab g K m a) b ≡ l2 g m (tab g K m a) b
      unfolding l2
      entry_l2 a b p q (inl d) z = l2_off g K ok m m' (tab g K m i) st.cluster (tab g K m a) b q
          (λ e. tab_tab g.L g.E (fix g m) (tab g K m) (dat g K m) i a l p d t one (sym e))
      entry_l2 a b p q (inr d) z =
          stored-apart g.C m m' (tab g K m i) (8 * j) (enc 8 v) st 8 (tab g K m a) (8 * b) (omega (arith, ok.c8))
          (steps_apart 8 b j (length (enc 8 v)) (length-enc 8 v) d)

      pub entry_new : l2 g m' (tab g K m i) j ≡ v
      unfolding l2
      entry_new = stored_num g.C m m' (tab g K m i) (8 * j) 8 v st lv

      pub entry_dat : (a b : ℕ) → a < g.L → b < g.E → (a ≢ i) ⊎ (b ≢ j) → dat g K m a b ≡ dat g K m' a b
      entry_dat a b p q d = go (ℕ_discrete (tab g K m a) 0)
        where
          go : Dec (tab g K m a ≡ 0) → dat g K m a b ≡ dat g K m' a b
          go (yes z) = dat_none g K m a b z ∙ sym (dat_none g K m' a b (entry_tab a p ∙ z))
          go (no n) =
              dat_some g K m a b n ∙ ap K.clus (sym (ap (λ (y : ℕ). l2 g m' y b) (entry_tab a p) ∙ entry_l2 a b p q d n))
              ∙ sym (dat_some g K m' a b (λ z. n (sym (entry_tab a p) ∙ z)))

      pub entry_dat_new : dat g K m' i j ≡ K.clus v
      entry_dat_new = dat_some g K m' i j (λ z. t (sym (entry_tab i l) ∙ z)) ∙ ap K.clus (ap (λ (y : ℕ). l2 g m' y j) (entry_tab i l) ∙ entry_new)

      entry_mark_new : mark g K m' i j ≡ K.flag v
      entry_mark_new = mark_some g K m' i j (λ z. t (sym (entry_tab i l) ∙ z)) ∙ ap K.flag (ap (λ (y : ℕ). l2 g m' y j) (entry_tab i l) ∙ entry_new)

      -- the old place loses a reference and the new one gets one
      pub entry_refs : (c : ℕ) → refs_of g K m' c + hit c (dat g K m i j) ≡ refs_of g K m c + hit c (K.clus v)
      entry_refs c =
          ap (λ (y : ℕ). y + hit c (dat g K m i j))
          (ap (λ (f : ℕ → ℕ). refs g.L g.E f (tab g K m') (dat g K m') c) (fix-same g m m' entry_blk)
          ∙ refs_same g.L g.E (fix g m) (tab g K m') (tab g K m) (dat g K m') (dat g K m') entry_tab (λ a b p q. refl) c)
          ∙ refs_entry g.L g.E (fix g m) (tab g K m) (dat g K m) (dat g K m') i j l k entry_dat c
          ∙ ap (λ (y : ℕ). refs_of g K m c + hit c y) entry_dat_new

      -- the new place is none, or a free cluster with its count set, or the old place
      abbrev NewPlace : Type 0
      NewPlace = (K.clus v ≢ 0 → (refs_of g K m (K.clus v) ≡ 0) × (1 ≤ cnt g m (K.clus v))) ⊎ (K.clus v ≡ dat g K m i j)

      -- a cluster that others name keeps its references
      entry-others : NewPlace → (c : ℕ) → (dat g K m i j ≢ 0 → dat g K m i j ≢ c) → (K.clus v ≢ 0 → refs_of g K m (K.clus v) ≡ 0 → K.clus v ≢ c) → refs_of g K m' c ≡ refs_of g K m c
      entry-others (inl n) c f h = omega (arith, entry_refs c, not_hit c (dat g K m i j) f, not_hit c (K.clus v) (λ d. h d (n d).0))
      entry-others (inr e) c f h = omega (arith, entry_refs c, ap (hit c) e)

      -- the new place has one reference
      entry-alone : NewPlace → (dat g K m i j ≢ 0 → refs_of g K m (dat g K m i j) ≤ 1) → K.clus v ≢ 0 → refs_of g K m' (K.clus v) ≡ 1
      entry-alone (inl n) alone d =
          omega (
            arith,
            entry_refs (K.clus v),
            (n d).0,
            hit_self (K.clus v) d,
            not_hit (K.clus v) (dat g K m i j) (λ z e. free_dat g.L g.E (fix g m) (tab g K m) (dat g K m) (K.clus v) (n d).0 d i j l k (sym e)),
          )
      entry-alone (inr e) alone d =
          omega (
            arith,
            entry_refs (K.clus v),
            ap (hit (K.clus v)) e,
            ap (refs_of g K m) e,
            alone (λ z. d (e ∙ z)),
            refs_dat g.L g.E (fix g m) (tab g K m) (dat g K m) (dat g K m i j) i j l k,
            hit_self (dat g K m i j) (λ z. d (e ∙ z)),
          )

      pub entry-sound : (dat g K m i j ≢ 0 → refs_of g K m (dat g K m i j) ≤ 1) → (K.clus v ≢ 0 → K.own v ≡ 1)
          → (K.clus v ≢ 0 → (refs_of g K m (K.clus v) ≡ 0) × (1 ≤ cnt g m (K.clus v))) ⊎ (K.clus v ≡ dat g K m i j) → Sound g K m'
      entry-sound alone marked new =
          record {
            bytes = small;
            blkin = λ a h. rw (entry_blk a h) (s.blkin a h);
            goods1 = λ a h. rw (entry_l1 a h) (s.goods1 a h);
            goods2 = λ a b p q d. rw (entry_tab a p) (good a b p q (λ z. d (entry_tab a p ∙ z)) (pair_or a b i j));
            inv = rw (fix-same g m m' entry_blk) (inv_same g.N g.L g.E (tree g) (fix g m) (tab g K m) (tab g K m') (dat g K m') (dat g K m') (cnt g m) (cnt g m')
                (mid new) (λ a h. sym (entry_tab a h)) (λ a b p q. refl) (λ c h. sym (entry_cnt c h)));
            mark1 = λ a h n d. rw (
              entry_tab a h,
              entry_l1 a h,
              others (tab g K m a)
                  (λ z y. dat_tab g.L g.E (fix g m) (tab g K m) (dat g K m) i j a l k h z (alone z) y)
                  (λ z f y. free_tab g.L g.E (fix g m) (tab g K m) (dat g K m) (K.clus v) f z a h y),
            )
                (s.mark1 a h n (λ z. d (entry_tab a h ∙ z)));
            mark2 = λ a b p n q d. mark a b p n q d (pair_or a b i j);
          }
        where
          others : (c : ℕ) → (dat g K m i j ≢ 0 → dat g K m i j ≢ c) → (K.clus v ≢ 0 → refs_of g K m (K.clus v) ≡ 0 → K.clus v ≢ c) → refs_of g K m' c ≡ refs_of g K m c
          others = entry-others new

          mark : (a b : ℕ) → a < g.L → a < g.M → b < g.E → dat g K m' a b ≢ 0 → ((a ≡ i) × (b ≡ j)) ⊎ ((a ≢ i) ⊎ (b ≢ j))
              → Right (K.own (l2 g m' (tab g K m' a) b)) (refs_of g K m' (dat g K m' a b))
          mark a b p n q d (inl e) =
              let z : K.clus v ≢ 0 = λ y. d (ap₂ (λ (x w : ℕ). dat g K m' x w) e.0 e.1 ∙ entry_dat_new ∙ y) in
              rw (e.0, e.1, entry_tab i l, entry_new, entry_dat_new) ((λ y. entry-alone new alone z), (λ y. marked z))
          mark a b p n q d (inr e) =
              let f : dat g K m a b ≡ dat g K m' a b = entry_dat a b p q e in
              let d' : dat g K m a b ≢ 0 = λ y. d (sym f ∙ y) in
              rw (
                entry_tab a p,
                entry_l2 a b p q e (λ y. d' (dat_none g K m a b y)),
                ← f,
                others (dat g K m a b)
                    (λ z y. dat_dat g.L g.E (fix g m) (tab g K m) (dat g K m) i j a b l k p q e z (alone z) y)
                    (λ z h y. free_dat g.L g.E (fix g m) (tab g K m) (dat g K m) (K.clus v) h z a b p q y),
              )
              (s.mark2 a b p n q d')

          good : (a b : ℕ) → a < g.L → b < g.E → tab g K m a ≢ 0 → ((a ≡ i) × (b ≡ j)) ⊎ ((a ≢ i) ⊎ (b ≢ j)) → K.good2 (l2 g m' (tab g K m a) b)
          good a b p q d (inl e) = rw (e.0, e.1, entry_new) gv
          good a b p q d (inr e) = rw (entry_l2 a b p q e d) (s.goods2 a b p q d)

          olds : K.clus v ≡ dat g K m i j → (a b : ℕ) → ((a ≡ i) × (b ≡ j)) ⊎ ((a ≢ i) ⊎ (b ≢ j)) → a < g.L → b < g.E → dat g K m a b ≡ dat g K m' a b
          olds e a b (inl f) p q = rw (f.0, f.1) (sym e ∙ sym entry_dat_new)
          olds e a b (inr f) p q = entry_dat a b p q f

          mid : (K.clus v ≢ 0 → (refs_of g K m (K.clus v) ≡ 0) × (1 ≤ cnt g m (K.clus v))) ⊎ (K.clus v ≡ dat g K m i j)
              → Inv g.N g.L g.E (tree g) (fix g m) (tab g K m) (dat g K m') (cnt g m)
          mid (inl f) = inv_entry g.N g.L g.E (tree g) (fix g m) (tab g K m) (dat g K m) (dat g K m') (cnt g m) i j s.inv l k entry_dat (rw entry_dat_new f)
          mid (inr e) = inv_same g.N g.L g.E (tree g) (fix g m) (tab g K m) (tab g K m) (dat g K m) (dat g K m') (cnt g m) (cnt g m) s.inv
              (λ a h. refl) (λ a b p q. olds e a b (pair_or a b i j) p q) (λ c h. refl)

      pub entry-reads : (a b x : ℕ) → a < g.L → b < g.E → x < g.C → (a ≢ i) ⊎ (b ≢ j) → gread g K m' a b x ≡ gread g K m a b x
      entry-reads a b x p q h d = gread_same g K ok m m' a b x (entry_tab a p) (entry_l2 a b p q d)
          (λ z. st.cluster (dat g K m a b) x h (λ e. tab_dat g.L g.E (fix g m) (tab g K m) (dat g K m) i a b l p q t one (sym e)))

      pub entry_read : (x : ℕ) → x < g.C → K.clus v ≢ tab g K m i → gread g K m' i j x ≡ shown (K.clus v) (K.flag v) (m (K.clus v) x)
      unfolding gread
      entry_read x h d = rw (entry_dat_new, entry_mark_new, st.cluster (K.clus v) x h d)

    -- one L1 entry gets the table t
    module _ (i t : ℕ) (l : i < g.L) (hi : Has g i) (t_n : t < g.N) (st : Stored g.C m m' (row g i) (8 * col g i) (enc 8 (K.mk t))) where
      at_tree : i / g.M < suc g.T
      at_tree = omega (arith, tree_in g K ok i l)

      at_row : i % g.M / g.E < g.span (i / g.M)
      at_row = row_in g K ok i l hi

      pub at_in : row g i < g.N
      at_in = row-N g K ok i l hi

      at-fix : 1 ≤ fix g m (row g i)
      at-fix = fix_l1 g m (row g i) (i / g.M) (i % g.M / g.E) at_tree at_row refl

      at_one : fix g m (row g i) ≤ 1
      at_one = fix_one (row g i) at_in

      at-alone : refs_of g K m (row g i) ≤ 1
      at-alone = s.inv.fixed (row g i) at_in at-fix

      pub at-not-0 : row g i ≢ 0
      at-not-0 = l1_0 g m (row g i) (i / g.M) (i % g.M / g.E) at_tree at_row at_one refl

      pub link_rt : (a : ℕ) → a < g.rtn * g.E → rt g m' a ≡ rt g m a
      link_rt = rt_off g K ok m m' (row g i) st.cluster (λ a h. l1_rt g m (row g i) (i / g.M) (i % g.M / g.E) a at_tree at_row h at_one refl)

      -- another L1 table, or the directory, lies elsewhere
      pub link_away : (u q : ℕ) → u < suc g.T → q < g.span u → i / g.M ≢ u → row g i ≢ g.root u + q
      link_away u q h o d = l1_l1 g m (row g i) (i / g.M) (i % g.M / g.E) u q at_tree at_row h o d at_one refl

      pub link_blk : (a : ℕ) → a < g.B → blk g m' a ≡ blk g m a
      unfolding blk
      link_blk a h = ap (λ (x : ℕ). x / g.C) (link_rt a (omega (arith, ok.rtfit)))

      pub link_cnt : (c : ℕ) → c < g.N → cnt g m' c ≡ cnt g m c
      link_cnt c h = cnt_off g K ok m m' (row g i) st.cluster link_blk c h
          (blk_l1 g m (blk g m (c / g.H)) (c / g.H) (i / g.M) (i % g.M / g.E) (in_b c h) at_tree at_row (fix_one _ (s.blkin (c / g.H) (in_b c h))) refl)
        where
          in_b : (x : ℕ) → x < g.N → x / g.H < g.B
          in_b x h = (div-lt_iff_lt-mul ok.hpos).1 (omega (arith, ok.blocks))

      pub link_l1 : (a : ℕ) → a < g.L → a ≢ i → l1 g m' a ≡ l1 g m a
      link_l1 a h d = go (dec_lt (a % g.M) (g.len (a / g.M)))
        where
          fits : 8 * col g a + 8 ≤ g.C
          fits = omega (arith, ok.c8, mod-lt (a % g.M) ok.epos)

          off : row g a ≢ row g i → num 8 (m' (row g a)) (8 * col g a) ≡ num 8 (m (row g a)) (8 * col g a)
          off n = stored-cluster g.C m m' (row g i) (8 * col g i) (enc 8 (K.mk t)) st 8 (row g a) (8 * col g a) fits n

          near : a / g.M ≡ i / g.M → (a % g.M / g.E ≢ i % g.M / g.E) ⊎ (col g a ≢ col g i) → num 8 (m' (row g a)) (8 * col g a) ≡ num 8 (m (row g a)) (8 * col g a)
          near e (inl n) = off (λ y. n (omega (arith, ap g.root e, y)))
          near e (inr n) = stored-apart g.C m m' (row g i) (8 * col g i) (enc 8 (K.mk t)) st 8 (row g a) (8 * col g a) fits
              (steps_apart 8 (col g a) (col g i) (length (enc 8 (K.mk t))) (length-enc 8 (K.mk t)) n)

          same_tree : Has g a → Dec (a / g.M ≡ i / g.M) → num 8 (m' (row g a)) (8 * col g a) ≡ num 8 (m (row g a)) (8 * col g a)
          same_tree y (yes e) = near e (split_index g.E (a % g.M) (i % g.M) (λ f. d (sym (div-add-mod' a g.M) ∙ ap₂ (λ (x w : ℕ). x * g.M + w) e f ∙ div-add-mod' i g.M)))
          same_tree y (no n) = off (λ e. link_away (a / g.M) (a % g.M / g.E) (omega (arith, tree_in g K ok a h)) (row_in g K ok a h y) (λ f. n (sym f)) (sym e))

          go : Dec (a % g.M < g.len (a / g.M)) → l1 g m' a ≡ l1 g m a
          go (no n) = l1_none g m' a n ∙ sym (l1_none g m a n)
          go (yes y) = l1_some g m' a y ∙ same_tree y (ℕ_discrete (a / g.M) (i / g.M)) ∙ sym (l1_some g m a y)

      pub link_l1_new : l1 g m' i ≡ K.mk t
      link_l1_new = l1_some g m' i hi ∙ stored_num g.C m m' (row g i) (8 * col g i) 8 (K.mk t) st (ok.laws.mk_lt t t_n)

      pub link_tab : (a : ℕ) → a < g.L → a ≢ i → tab g K m' a ≡ tab g K m a
      unfolding tab
      link_tab a h d = ap K.clus (link_l1 a h d)

      pub link_tab_new : tab g K m' i ≡ t
      unfolding tab
      link_tab_new = ap K.clus link_l1_new ∙ ok.laws.mk_clus t t_n

      -- no table lies in the L1 table's cluster
      pub link_l2 : (a b : ℕ) → a < g.L → b < g.E → l2 g m' (tab g K m a) b ≡ l2 g m (tab g K m a) b
      link_l2 a b p q = l2_off g K ok m m' (row g i) st.cluster (tab g K m a) b q
          (λ e. fix_tab g.L g.E (fix g m) (tab g K m) (dat g K m) (row g i) a p at-not-0 at-alone at-fix (sym e))

      -- it had none, and nothing refers to t
      module _ (j : ℕ) (k : j < g.E) (z : tab g K m i ≡ 0) (free : refs_of g K m t ≡ 0) where
        t_not-0 : t ≢ 0
        t_not-0 = free-not-0 t free

        t_not-at : t ≢ row g i
        t_not-at e = omega (arith, at-fix, refs_fix g.L g.E (fix g m) (tab g K m) (dat g K m) t, ap (fix g m) e)

        pub link_l2_new : (b : ℕ) → b < g.E → l2 g m' t b ≡ l2 g m t b
        link_l2_new b q = l2_off g K ok m m' (row g i) st.cluster t b q t_not-at

        pub link_dat : (a b : ℕ) → a < g.L → b < g.E → a ≢ i → dat g K m a b ≡ dat g K m' a b
        link_dat a b p q d = go (ℕ_discrete (tab g K m a) 0)
          where
            go : Dec (tab g K m a ≡ 0) → dat g K m a b ≡ dat g K m' a b
            go (yes y) = dat_none g K m a b y ∙ sym (dat_none g K m' a b (link_tab a p d ∙ y))
            go (no n) =
                dat_some g K m a b n ∙ ap K.clus (sym (ap (λ (y : ℕ). l2 g m' y b) (link_tab a p d) ∙ link_l2 a b p q))
                ∙ sym (dat_some g K m' a b (λ y. n (sym (link_tab a p d) ∙ y)))

        pub link_dat_new : (b : ℕ) → b < g.E → dat g K m' i b ≡ K.clus (l2 g m t b)
        link_dat_new b q = dat_some g K m' i b (λ y. t_not-0 (sym link_tab_new ∙ y)) ∙ ap K.clus (ap (λ (y : ℕ). l2 g m' y b) link_tab_new ∙ link_l2_new b q)

        -- t holds one entry, for the cluster d
        pub link_sound : (d : ℕ) → K.clus (l2 g m t j) ≡ d → K.own (l2 g m t j) ≡ 1 → t ≢ d → refs_of g K m d ≡ 0 → 1 ≤ cnt g m t → 1 ≤ cnt g m d
            → ((b : ℕ) → b < g.E → K.good2 (l2 g m t b)) → ((b : ℕ) → b < g.E → b ≢ j → K.clus (l2 g m t b) ≡ 0) → Sound g K m'
        link_sound d e ow td fd ct cd gs zs =
            record {
              bytes = small;
              blkin = λ a h. rw (link_blk a h) (s.blkin a h);
              goods1 = λ a h. one a h (ℕ_discrete a i);
              goods2 = λ a b p q n. two a b p q n (ℕ_discrete a i);
              inv = rw (fix-same g m m' link_blk) (inv_same g.N g.L g.E (tree g) (fix g m) (tab g K m') (tab g K m') (dat g K m') (dat g K m') (cnt g m) (cnt g m')
                  mid (λ a h. refl) (λ a b p q. refl) (λ c h. sym (link_cnt c h)));
              mark1 = λ a h n y. first a h n y (ℕ_discrete a i);
              mark2 = λ a b p n q y. second a b p n q y (ℕ_discrete a i) (ℕ_discrete b j);
            }
          where
            d_not-0 : d ≢ 0
            d_not-0 = free-not-0 d fd

            nd : dat g K m' i j ≡ d
            nd = link_dat_new j k ∙ e

            moved : (c : ℕ) → refs_of g K m' c ≡ refs_of g K m c + hit c t + hit c d
            moved c =
                ap (λ (f : ℕ → ℕ). refs g.L g.E f (tab g K m') (dat g K m') c) (fix-same g m m' link_blk)
                ∙ refs_link g.L g.E (tab g K m) (tab g K m') (dat g K m) (dat g K m') i j l k z
                (λ a h n. sym (link_tab a h n)) link_dat (λ b q. dat_none g K m i b z) (λ b q n. link_dat_new b q ∙ zs b q n) (fix g m) c
                ∙ ap₂ (λ (x y : ℕ). refs_of g K m c + hit c x + hit c y) link_tab_new nd

            others : (c : ℕ) → t ≢ c → d ≢ c → refs_of g K m' c ≡ refs_of g K m c
            others c p q = omega (arith, moved c, hit_other c t (λ y. p (sym y)), hit_other c d (λ y. q (sym y)))

            first : (a : ℕ) → a < g.L → a < g.M → tab g K m' a ≢ 0 → Dec (a ≡ i) → Right (K.own (l1 g m' a)) (refs_of g K m' (tab g K m' a))
            first a h n y (yes f) =
                rw (f, link_l1_new, link_tab_new)
                ((λ w. omega (arith, moved t, free, hit_self t t_not-0, hit_other t d td)), (λ w. ok.laws.mk_own t t_n))
            first a h n y (no f) =
                rw (
                  link_tab a h f,
                  link_l1 a h f,
                  others (tab g K m a)
                      (free_tab g.L g.E (fix g m) (tab g K m) (dat g K m) t free t_not-0 a h) (free_tab g.L g.E (fix g m) (tab g K m) (dat g K m) d fd d_not-0 a h),
                )
                (s.mark1 a h n (λ w. y (link_tab a h f ∙ w)))

            second : (a b : ℕ) → a < g.L → a < g.M → b < g.E → dat g K m' a b ≢ 0 → Dec (a ≡ i) → Dec (b ≡ j)
                → Right (K.own (l2 g m' (tab g K m' a) b)) (refs_of g K m' (dat g K m' a b))
            second a b p n q y (yes f) (yes u) =
                rw (f, u, link_tab_new, link_l2_new j k, nd)
                ((λ w. omega (arith, moved d, fd, hit_self d d_not-0, hit_other d t (λ x. td (sym x)))), (λ w. ow))
            second a b p n q y (yes f) (no u) = absurd (y (ap (λ (x : ℕ). dat g K m' x b) f ∙ link_dat_new b q ∙ zs b q u))
            second a b p n q y (no f) u =
                let h : dat g K m a b ≡ dat g K m' a b = link_dat a b p q f in
                rw (
                  link_tab a p f,
                  link_l2 a b p q,
                  ← h,
                  others (dat g K m a b)
                      (free_dat g.L g.E (fix g m) (tab g K m) (dat g K m) t free t_not-0 a b p q) (free_dat g.L g.E (fix g m) (tab g K m) (dat g K m) d fd d_not-0 a b p q),
                )
                (s.mark2 a b p n q (λ w. y (sym h ∙ w)))

            one : (a : ℕ) → a < g.L → Dec (a ≡ i) → K.good1 (l1 g m' a)
            one a h (yes f) = rw (f, link_l1_new) (ok.laws.mk_good1 t t_n t_not-0)
            one a h (no n) = rw (link_l1 a h n) (s.goods1 a h)

            two : (a b : ℕ) → a < g.L → b < g.E → tab g K m' a ≢ 0 → Dec (a ≡ i) → K.good2 (l2 g m' (tab g K m' a) b)
            two a b p q n (yes f) = rw (f, link_tab_new, link_l2_new b q) (gs b q)
            two a b p q n (no y) = rw (link_tab a p y, link_l2 a b p q) (s.goods2 a b p q (λ u. n (link_tab a p y ∙ u)))

            mid : Inv g.N g.L g.E (tree g) (fix g m) (tab g K m') (dat g K m') (cnt g m)
            mid = inv_link g.N g.L g.E (tree g) (fix g m) (tab g K m) (tab g K m') (dat g K m) (dat g K m') (cnt g m) i j s.inv l k z
                (λ a h n. sym (link_tab a h n)) link_dat (λ b q. dat_none g K m i b z) (λ b q n. link_dat_new b q ∙ zs b q n)
                (λ f. td (sym link_tab_new ∙ f ∙ link_dat_new j k ∙ e))
                (rw link_tab_new (free, ct)) (rw (link_dat_new j k, e) (fd, cd))

        pub link_reads : (a b x : ℕ) → a < g.L → b < g.E → x < g.C → a ≢ i → gread g K m' a b x ≡ gread g K m a b x
        link_reads a b x p q h d = gread_same g K ok m m' a b x (link_tab a p d) (λ n. link_l2 a b p q)
            (λ n. st.cluster (dat g K m a b) x h
            (λ e. fix_dat g.L g.E (fix g m) (tab g K m) (dat g K m) (row g i) a b p q at-not-0 at-alone at-fix (sym e)))

        link_mark_new : (b : ℕ) → b < g.E → mark g K m' i b ≡ K.flag (l2 g m t b)
        link_mark_new b q =
            mark_some g K m' i b (λ y. t_not-0 (sym link_tab_new ∙ y)) ∙ ap (λ (y : ℕ). K.flag (l2 g m' y b)) link_tab_new ∙ ap K.flag (link_l2_new b q)

        -- through the new table the guest reads what lies underneath, but through entry j
        pub link_zeros : (b x : ℕ) → b < g.E → l2 g m t b ≡ 0 → gread g K m' i b x ≡ (λ u. u)
        link_zeros b x q e =
            gread_none g K m' i b x (link_dat_new b q ∙ ap K.clus e ∙ ok.laws.zero_clus) (link_mark_new b q ∙ ap K.flag e ∙ ok.laws.zero_flag)

        pub link_read : (x : ℕ) → x < g.C → K.clus (l2 g m t j) ≢ row g i
            → gread g K m' i j x ≡ shown (K.clus (l2 g m t j)) (K.flag (l2 g m t j)) (m (K.clus (l2 g m t j)) x)
        unfolding gread
        link_read x h d = rw (link_dat_new j k, link_mark_new j k, st.cluster (K.clus (l2 g m t j)) x h d)
