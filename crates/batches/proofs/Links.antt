-- A call of a batch fills a cluster to which nothing refers, and links a new table. Assumes nothing.
use mathlib.Core.Path.{◌≡◌, refl, sym, ap, ◌∙◌}
use mathlib.Core.Logic.{inl, ◌≢◌}
use mathlib.Core.List.{List, [], ◌∷◌}
use Prim.Native.Nat.{ℕ, zero, suc, ◌+◌, ◌*◌, ◌/◌, ◌%◌, ◌≤◌, ◌<◌}
use native.Mathlib.Decide.{ℕ_discrete}
use native.Mathlib.Omega.{arith}
use lib.ListN.{length}
use lib.Seq.{sets}
use Rattle.cuts.proofs.Sum.{sum_to, sum-le}
use Rattle.cuts.proofs.Refs.{hit, hit_other, not_hit, tabs, dats, refs_is}
use Rattle.cuts.proofs.Cell.{enc, length-enc, small-enc, Small, mem}
use Rattle.cuts.proofs.Meta.{Geo, GeoOk, Codec, blk, blk_l1, cnt, row, col, Has, l2, fix, tab, dat, refs_of, Keep, dat_none, dat_some, l2_off, tree_in, row_in}
use Rattle.cuts.proofs.Step.{fix_one, fix-same, link_blk, link_cnt, link_tab, link_tab_new, link_l2, Quiet}
use Rattle.cuts.proofs.Run.{Store, apply, apply_all, fill, apply-fill, Each, none, also}
use Rattle.cuts.proofs.Write.{small_one}
use Rattle.cuts.proofs.Call.{Ok, entry_store, link_store, next-free}
use Rattle.batches.proofs.Mixture.{Use, table, Put, free-row}
use Rattle.batches.proofs.Prepared.{Ready, spare}
use Rattle.batches.proofs.Joined.{links}
use Rattle.batches.proofs.Stores.{Laid, laid_link, link_mixture}
use Rattle.batches.proofs.Planned.{Tabled, Planned}
use Rattle.batches.proofs.Order.{passes, aside_cell, fill_touch, free_aside}
use Rattle.batches.proofs.Extend.{Step, merge-all-left, merge-all-right}
use Rattle.batches.proofs.Places.{quiet_step}

-- fewer places name c
pub fewer_refs : (g : Geo) (K : Codec) (x y : ℕ → ℕ → ℕ) (c : ℕ) → fix g y c ≡ fix g x c → ((i : ℕ) → i < g.L → hit c (tab g K y i) ≤ hit c (tab g K x i))
    → ((i j : ℕ) → i < g.L → j < g.E → hit c (dat g K y i j) ≤ hit c (dat g K x i j)) → refs_of g K y c ≤ refs_of g K x c
unfolding tabs dats
fewer_refs g K x y c e t d =
    omega (
      arith,
      e,
      refs_is g.L g.E (fix g x) (tab g K x) (dat g K x) c,
      refs_is g.L g.E (fix g y) (tab g K y) (dat g K y) c,
      sum-le g.L (λ i. hit c (tab g K y i)) (λ i. hit c (tab g K x i)) t,
      sum-le g.L (λ i. sum_to g.E (λ j. hit c (dat g K y i j))) (λ i. sum_to g.E (λ j. hit c (dat g K x i j)))
          (λ i l. sum-le g.E (λ j. hit c (dat g K y i j)) (λ j. hit c (dat g K x i j)) (λ j k. d i j l k)),
    )

module _ (g : Geo) (K : Codec) (ok : GeoOk g K) (m0 : ℕ → ℕ → ℕ) (img : List ℕ) (k0 : Ok g K m0 img) (role : ℕ → Use) (dead : ℕ → Type 0)
    (r l f : List Store) (s : List ℕ) (p : Planned g K ok m0 img k0 role dead r l f s) where
  abbrev m : ℕ → ℕ → ℕ
  m = mem g.C img

  abbrev x : ℕ → ℕ → ℕ
  x = mem g.C s

  pub spare_fill : (w o : ℕ) (bs : List ℕ) → w < g.N → o + length bs ≤ g.C → Small bs → refs_of g K m w ≡ 0 → Each (Ready g K ok m0 img) (fill w o bs)
  unfolding fill
  spare_fill w o [] h n sm z = none
  spare_fill w o (b ∷ bs) h n sm z = also (spare w o (b ∷ []) h (omega arith) (small_one (sm zero)) z) (spare_fill w (suc o) bs h (omega arith) (λ y. sm (suc y)) z)

  -- ---- bytes of a cluster to which nothing refers, in memory and in the first image
  module _ (w o : ℕ) (bs : List ℕ) (h : w < g.N) (n : o + length bs ≤ g.C) (sm : Small bs) (z : refs_of g K m w ≡ 0) (free : refs_of g K x w ≡ 0) where
    q : Ok g K m0 (sets s (w * g.C + o) bs) × Quiet g K x (mem g.C (sets s (w * g.C + o) bs))
    q = next-free g K ok m0 s p.fine w o bs h n sm free

    pub fill_keep : Keep g K x (mem g.C (apply_all g.C (fill w o bs) s))
    fill_keep = rw (apply-fill g.C w o bs s) q.1.keep

    pub fill_cnt : (a : ℕ) → a < g.N → cnt g (mem g.C (apply_all g.C (fill w o bs) s)) a ≡ cnt g x a
    fill_cnt = rw (apply-fill g.C w o bs s) q.1.cnts

    pub fill_step : Step g K ok m0 img k0 role role dead dead (fill w o bs) [] [] s (apply_all g.C (fill w o bs) s)
    fill_step =
        let e : apply_all g.C (fill w o bs) s ≡ sets s (w * g.C + o) bs = apply-fill g.C w o bs s in
        quiet_step g K ok m0 img k0 role dead r l f s p (fill w o bs) _ (spare_fill w o bs h n sm z)
        (fill_touch g K ok m0 img k0 (λ c. dead c → ⊥) w o bs h n (free_aside g K ok m0 img k0 w z)) refl (rw e q.0) (rw e q.1.keep) (rw e q.1.cnts)

  pub inner_keep : (t j v : ℕ) → t < g.N → j < g.E → refs_of g K m t ≡ 0 → refs_of g K x t ≡ 0 → Keep g K x (mem g.C (apply g.C (entry_store g t j v) s))
  unfolding apply entry_store
  inner_keep t j v h n z free = (next-free g K ok m0 s p.fine t (8 * j) (enc 8 v) h (omega (arith, ok.c8, length-enc 8 v)) (small-enc 8 v) free).1.keep

  pub inner_cnt : (t j v : ℕ) → t < g.N → j < g.E → refs_of g K m t ≡ 0 → refs_of g K x t ≡ 0 → (a : ℕ) → a < g.N → cnt g (mem g.C (apply g.C (entry_store g t j v) s)) a ≡ cnt g x a
  unfolding apply entry_store
  inner_cnt t j v h n z free = (next-free g K ok m0 s p.fine t (8 * j) (enc 8 v) h (omega (arith, ok.c8, length-enc 8 v)) (small-enc 8 v) free).1.cnts

  -- an entry of a table that is not linked yet
  pub inner_step : (t j v : ℕ) → t < g.N → j < g.E → refs_of g K m t ≡ 0 → refs_of g K x t ≡ 0
      → Step g K ok m0 img k0 role role dead dead (entry_store g t j v ∷ []) [] [] s (apply g.C (entry_store g t j v) s)
  unfolding apply_all apply entry_store
  inner_step t j v h n z free =
      let q : Ok g K m0 (sets s (t * g.C + 8 * j) (enc 8 v)) × Quiet g K x (mem g.C (sets s (t * g.C + 8 * j) (enc 8 v))) =
      next-free g K ok m0 s p.fine t (8 * j) (enc 8 v) h (omega (arith, ok.c8, length-enc 8 v)) (small-enc 8 v) free in
      quiet_step g K ok m0 img k0 role dead r l f s p (entry_store g t j v ∷ []) _
      (also (spare t (8 * j) (enc 8 v) h (omega (arith, ok.c8, length-enc 8 v)) (small-enc 8 v) z) none)
      (also (passes (record { w = t; o = 8 * j; bs = λ k. enc 8 v }) (record { in_n = h; in_c = λ k. omega (arith, ok.c8, length-enc 8 v); local = λ k k' e. refl }) (free_aside g K ok m0 img k0 t z)) none) refl q.0 q.1.keep q.1.cnts

  -- ---- a new table is linked
  module _ (i t : ℕ) (i_l : i < g.L) (hi : Has g i) (act : i < g.M) (t_n : t < g.N) (t0 : t ≢ 0) (z : tab g K x i ≡ 0) (old : tab g K m i ≡ 0) (free : refs_of g K m t ≡ 0)
      (used : role t ≡ table i) (filled : (b : ℕ) → b < g.E → Put g K m role i b (l2 g x t b))
      (alive : (c : ℕ) → dead c → (c ≢ t) × ((b : ℕ) → b < g.E → c ≢ 0 → c ≢ K.clus (l2 g x t b)))
      (only : (u : ℕ) → u < g.N → role u ≡ table i → u ≡ t) (rest : (u a : ℕ) → u < g.N → role u ≡ table a → a ≢ i → tab g K x a ≡ u)
      (fine : Ok g K m0 (apply g.C (link_store g i (K.mk t)) s)) where
    lay : Laid g s (row g i) (8 * col g i) (K.mk t)
    lay = laid_link g K ok m0 s p.fine i (K.mk t) i_l hi

    abbrev x' : ℕ → ℕ → ℕ
    x' = mem g.C (sets s (row g i * g.C + 8 * col g i) (enc 8 (K.mk t)))

    inner : (b : ℕ) → b < g.E → l2 g x' t b ≡ l2 g x t b
    inner b n = l2_off g K ok x x' (row g i) lay.stored.cluster t b n (free-row g K ok m i i_l hi t free)

    tab_new : tab g K x' i ≡ t
    tab_new = link_tab_new g K ok x p.fine.sound x' lay.small i t i_l hi t_n lay.stored

    tab_same : (a : ℕ) → a < g.L → a ≢ i → tab g K x' a ≡ tab g K x a
    tab_same = link_tab g K ok x p.fine.sound x' lay.small i t i_l hi t_n lay.stored

    pub less : (c : ℕ) → (c ≢ t) × ((b : ℕ) → b < g.E → c ≢ 0 → c ≢ K.clus (l2 g x t b)) → refs_of g K x' c ≤ refs_of g K x c
    less c d =
        fewer_refs g K x x' c (ap (λ (k : ℕ → ℕ). k c) (fix-same g x x' (link_blk g K ok x p.fine.sound x' lay.small i t i_l hi t_n lay.stored)))
        (λ a h. first a h (ℕ_discrete a i)) (λ a b h n. second a b h n (ℕ_discrete a i))
      where
        first : (a : ℕ) → a < g.L → Dec (a ≡ i) → hit c (tab g K x' a) ≤ hit c (tab g K x a)
        first a h (yes e) = omega (arith, ap (λ (y : ℕ). hit c (tab g K x' y)) e, ap (hit c) tab_new, hit_other c t d.0)
        first a h (no n) = omega (arith, ap (hit c) (tab_same a h n))

        inside : (b : ℕ) → b < g.E → Dec (c ≡ 0) → hit c (K.clus (l2 g x t b)) ≡ 0
        inside b n (yes y) = not_hit c (K.clus (l2 g x t b)) (λ k e. k (e ∙ y))
        inside b n (no y) = hit_other c (K.clus (l2 g x t b)) (d.1 b n y)

        second : (a b : ℕ) → a < g.L → b < g.E → Dec (a ≡ i) → hit c (dat g K x' a b) ≤ hit c (dat g K x a b)
        second a b h n (yes e) =
            let y : dat g K x' i b ≡ K.clus (l2 g x t b) =
            dat_some g K x' i b (λ w. t0 (sym tab_new ∙ w)) ∙ ap (λ (k : ℕ). K.clus (l2 g x' k b)) tab_new ∙ ap K.clus (inner b n) in
            omega (arith, ap (λ (k : ℕ). hit c (dat g K x' k b)) e, ap (hit c) y, inside b n (ℕ_discrete c 0))
        second a b h n (no k) = omega (arith, ap (hit c) (same (ℕ_discrete (tab g K x a) 0)))
          where
            same : Dec (tab g K x a ≡ 0) → dat g K x' a b ≡ dat g K x a b
            same (yes y) = dat_none g K x' a b (tab_same a h k ∙ y) ∙ sym (dat_none g K x a b y)
            same (no y) =
                dat_some g K x' a b (λ w. y (sym (tab_same a h k) ∙ w)) ∙ ap (λ (q : ℕ). K.clus (l2 g x' q b)) (tab_same a h k)
                ∙ ap K.clus (link_l2 g K ok x p.fine.sound x' lay.small i t i_l hi t_n lay.stored a b h n) ∙ sym (dat_some g K x a b y)

    row_aside : (b : ℕ) → b < g.B → blk g m b ≢ row g i
    row_aside b h =
        blk_l1 g m (blk g m b) b (i / g.M) (i % g.M / g.E) h (omega (arith, tree_in g K ok i i_l)) (row_in g K ok i i_l hi) (fix_one g K ok m k0.sound _ (k0.sound.blkin b h)) refl

    pub link_step : Step g K ok m0 img k0 role role dead dead [] (link_store g i (K.mk t) ∷ []) [] s (apply g.C (link_store g i (K.mk t)) s)
    unfolding apply_all apply link_store
    link_step =
        record {
          grows = λ a n. refl;
          dying = λ a n. n;
          both = link_store g i (K.mk t) ∷ [];
          every = link_store g i (K.mk t) ∷ [];
          first = merge-all-right _;
          second = merge-all-left _;
          is = refl;
          fine = fine;
          mix = link_mixture g K ok m role x x' p.fine.sound p.mix lay.small i t i_l hi t_n t0 old act free used (λ b n. rw (inner b n) (filled b n)) lay.stored;
          ready = none;
          linking = also (links i t i_l hi t_n t0 old act free used) none;
          falling = none;
          fewer = λ c h d. less c (alive c d);
          taken = λ a b e n. absurd (n e);
          tables = λ u a b e. tabled u a b e (ℕ_discrete a i);
          stays = λ a b d. tab_same a b (λ e. d (ap (tab g K x) e ∙ z));
          touch = none;
          order = λ a b. sym (aside_cell g K ok m0 img k0 (link_store g i (K.mk t)) s (record { in_n = lay.in_image; in_c = λ k. lay.in_cluster; local = λ k k' e. refl }) p.fine.len row_aside a b);
          counted = λ a b. rw (link_cnt g K ok x p.fine.sound x' lay.small i t i_l hi t_n lay.stored a b) (p.counted a b);
        }
      where
        tabled : (u a : ℕ) → u < g.N → role u ≡ table a → Dec (a ≡ i) → Tabled g K (sets s (row g i * g.C + 8 * col g i) (enc 8 (K.mk t))) u a
        tabled u a b e (yes y) = ((p.tables u a b e).0, inl (ap (tab g K x') y ∙ tab_new ∙ sym (only u b (e ∙ ap table y))))
        tabled u a b e (no y) = ((p.tables u a b e).0, inl (tab_same a (p.tables u a b e).0 y ∙ rest u a b e y))
