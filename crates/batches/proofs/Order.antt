-- The counts in their blocks: what one store leaves of each, and lists of stores. Assumes nothing.
use mathlib.Core.Path.{◌≡◌, refl, sym, ap, ◌∙◌}
use mathlib.Core.Logic.{◌⊎◌, inl, inr, ◌≢◌}
use mathlib.Core.List.{List, [], ◌∷◌}
use Prim.Native.Nat.{ℕ, suc, ◌+◌, ◌*◌, ◌/◌, ◌%◌, ◌^◌, ◌≤◌, ◌<◌}
use native.Mathlib.Nat.{mod-lt, mod-eq_of_lt, div-lt_iff_lt-mul}
use native.Mathlib.Decide.{ℕ_discrete}
use native.Mathlib.Omega.{arith}
use lib.ListN.{length, get_or}
use Rattle.widths.specs.Width.{span}
use Rattle.cuts.proofs.Refs.{refs_fix, fix_dat}
use Rattle.cuts.proofs.Cell.{Stored, cell, recell, length_recell, cell_cong, cell_new, cell_other, mem}
use Rattle.cuts.proofs.Meta.{Geo, GeoOk, Codec, blk, fix, tab, dat, refs_of, cell_in, fix_blk, blk_0, blk_blk}
use Rattle.cuts.proofs.Step.{fix_one, split_index, steps_apart}
use Rattle.cuts.proofs.Run.{Store, apply, apply_all, fill, Each, none, also}
use Rattle.cuts.proofs.Call.{Ok, count_store, in_blocks}
use Rattle.batches.proofs.Units.{count_fit}
use Rattle.batches.proofs.Lists.{Fit, Agree, Whole, store_of, apply-apart, length-apply}

module _ (g : Geo) (K : Codec) (ok : GeoOk g K) (m0 : ℕ → ℕ → ℕ) (img : List ℕ) (k0 : Ok g K m0 img) where
  abbrev m : ℕ → ℕ → ℕ
  m = mem g.C img

  -- count c in y, also one past the last cluster, where the first image has its block
  abbrev pub cell_at : List ℕ → ℕ → ℕ
  cell_at y c = cell g.W (mem g.C y (blk g m (c / g.H))) (g.W * (c % g.H))

  abbrev pub Cell : ℕ → Type 0
  Cell c = c < g.B * g.H

  -- a store into no block
  abbrev pub Aside : Store → Type 0
  Aside u = (b : ℕ) → b < g.B → blk g m b ≢ u.w

  in_block : (c : ℕ) → Cell c → c / g.H < g.B
  in_block c l = (div-lt_iff_lt-mul ok.hpos).1 l

  fits : (i : ℕ) → i < g.H → g.W * i / 8 + span g.W ≤ g.C
  fits = cell_in g K ok m m 0 (λ a x q d. refl)

  -- where the bytes of its block stay
  same_cell : (c : ℕ) (y z : List ℕ) → Agree g.C g.N (blk g m (c / g.H)) y z → cell_at y c ≡ cell_at z c
  same_cell c y z a = cell_cong g.W _ _ (g.W * (c % g.H)) (λ o p q. a o (omega (arith, fits (c % g.H) (mod-lt c ok.hpos))))

  pub aside_cell : (u : Store) (y : List ℕ) → Fit g.C g.N u → Whole g.C g.N y → Aside u → (c : ℕ) → Cell c → cell_at (apply g.C u y) c ≡ cell_at y c
  aside_cell u y f w a c l = same_cell c (apply g.C u y) y (apply-apart g.C g.N (blk g m (c / g.H)) u y f w (a (c / g.H) (in_block c l)))

  -- a count
  module _ (a v : ℕ) (a_n : a < g.N) (lv : v < 2 ^ g.W) (fit : Fit g.C g.N (count_store g m a v)) (y : List ℕ) (w : Whole g.C g.N y) where
    abbrev z : List ℕ
    z = apply g.C (count_store g m a v) y

    st : Stored g.C (mem g.C y) (mem g.C z) (blk g m (a / g.H)) (g.W * (a % g.H) / 8) (recell g.W (mem g.C y (blk g m (a / g.H))) (g.W * (a % g.H)) v)
    unfolding count_store
    st = store_of g.C g.N (count_store g m a v) y fit w

    held : (o : ℕ) → o < span g.W → mem g.C z (blk g m (a / g.H)) (g.W * (a % g.H) / 8 + o) ≡ get_or (recell g.W (mem g.C y (blk g m (a / g.H))) (g.W * (a % g.H)) v) o 0
    held o h = st.inside o (omega (arith, length_recell g.W (mem g.C y (blk g m (a / g.H))) (g.W * (a % g.H)) v))

    around : (o : ℕ) → o < g.C → (o < g.W * (a % g.H) / 8) ⊎ (g.W * (a % g.H) / 8 + span g.W ≤ o) → mem g.C z (blk g m (a / g.H)) o ≡ mem g.C y (blk g m (a / g.H)) o
    around o h (inl d) = st.before (blk g m (a / g.H)) o h d
    around o h (inr d) = st.after (blk g m (a / g.H)) o h (omega (arith, length_recell g.W (mem g.C y (blk g m (a / g.H))) (g.W * (a % g.H)) v))

    pub count_here : cell_at z a ≡ v
    count_here = cell_new g.C g.W _ _ (g.W * (a % g.H)) v (ok.fit (a % g.H)) held around ∙ mod-eq_of_lt lv

    pub count_else : (c : ℕ) → Cell c → c ≢ a → cell_at z c ≡ cell_at y c
    count_else c l d = go (ℕ_discrete (c / g.H) (a / g.H)) (split_index g.H c a d)
      where
        far : c / g.H ≢ a / g.H → cell_at z c ≡ cell_at y c
        far n = same_cell c z y (λ o h. st.cluster (blk g m (c / g.H)) o h
            (λ e. blk_blk g m (blk g m (a / g.H)) (a / g.H) (c / g.H) (in_blocks g K ok m0 a a_n) (in_block c l) n (fix_one g K ok m k0.sound _ (k0.sound.blkin (a / g.H) (in_blocks g K ok m0 a a_n))) refl (sym e)))

        near : c / g.H ≡ a / g.H → c % g.H ≢ a % g.H → cell_at z c ≡ cell_at y c
        near e n =
            ap (λ (b : ℕ). cell g.W (mem g.C z (blk g m b)) (g.W * (c % g.H))) e
            ∙ cell_other g.C g.W _ _ (g.W * (a % g.H)) v (ok.fit (a % g.H)) held around ok.even (g.W * (c % g.H)) (ok.fit (c % g.H)) (fits (c % g.H) (mod-lt c ok.hpos))
            (steps_apart g.W (a % g.H) (c % g.H) g.W refl (λ q. n (sym q)))
            ∙ ap (λ (b : ℕ). cell g.W (mem g.C y (blk g m b)) (g.W * (c % g.H))) (sym e)

        go : Dec (c / g.H ≡ a / g.H) → (c / g.H ≢ a / g.H) ⊎ (c % g.H ≢ a % g.H) → cell_at z c ≡ cell_at y c
        go (no n) q = far n
        go (yes e) (inl n) = absurd (n e)
        go (yes e) (inr n) = near e n

  -- ---- lists of counts of clusters that have P, and of stores into no block
  pub data Touch (P : ℕ → Type 0) : Store → Type 0 where
    sets : (c v : ℕ) → c < g.N → v < 2 ^ g.W → P c → Touch P (count_store g m c v)
    passes : (u : Store) → Fit g.C g.N u → Aside u → Touch P u

  -- what such a list leaves of a count: what it was, or a value, and then the cluster has P
  pub data Effect (P : ℕ → Type 0) (us : List Store) (c : ℕ) : Type 0 where
    stays : ((y : List ℕ) → Whole g.C g.N y → cell_at (apply_all g.C us y) c ≡ cell_at y c) → Effect P us c
    becomes : (v : ℕ) → ((y : List ℕ) → Whole g.C g.N y → cell_at (apply_all g.C us y) c ≡ v) → P c → Effect P us c

  next_effect : (P : ℕ → Type 0) (u : Store) (us : List Store) → Touch P u → (c : ℕ) → Cell c → Effect P us c → Effect P (u ∷ us) c
  unfolding apply_all
  next_effect P u us t c l (becomes v h p) = becomes v (λ y w. h (apply g.C u y) (length-apply g.C g.N u y ∙ w)) p
  next_effect P u us (passes q f a) c l (stays h) = stays (λ y w. h (apply g.C u y) (length-apply g.C g.N u y ∙ w) ∙ aside_cell u y f w a c l)
  next_effect P u us (sets a v a_n lv p) c l (stays h) = go (ℕ_discrete c a)
    where
      go : Dec (c ≡ a) → Effect P (count_store g m a v ∷ us) c
      go (yes e) =
          becomes v (λ y w. h (apply g.C (count_store g m a v) y) (length-apply g.C g.N (count_store g m a v) y ∙ w)
          ∙ ap (cell_at (apply g.C (count_store g m a v) y)) e ∙ count_here a v a_n lv (count_fit g K ok m0 img k0 a v a_n) y w) (rw e p)
      go (no d) =
          stays (λ y w. h (apply g.C (count_store g m a v) y) (length-apply g.C g.N (count_store g m a v) y ∙ w) ∙ count_else a v a_n lv (count_fit g K ok m0 img k0 a v a_n) y w c l d)

  pub effect : (P : ℕ → Type 0) {us : List Store} → Each (Touch P) us → (c : ℕ) → Cell c → Effect P us c
  unfolding apply_all
  effect P none c l = stays (λ y w. refl)
  effect P (also {u} {us} t h) c l = next_effect P u us t c l (effect P h c l)

  -- a fill of a cluster that is no block
  pub fill_touch : (P : ℕ → Type 0) (w o : ℕ) (bs : List ℕ) → w < g.N → o + length bs ≤ g.C → ((b : ℕ) → b < g.B → blk g m b ≢ w) → Each (Touch P) (fill w o bs)
  unfolding fill
  fill_touch P w o [] h n a = none
  fill_touch P w o (x ∷ bs) h n a =
      also (passes (record { w = w; o = o; bs = λ f. x ∷ [] }) (record { in_n = h; in_c = λ f. omega arith; local = λ f f' e. refl }) a) (fill_touch P w (suc o) bs h (omega arith) a)

  -- no block: a cluster to which nothing refers, and data
  pub free_aside : (w : ℕ) → refs_of g K m w ≡ 0 → (b : ℕ) → b < g.B → blk g m b ≢ w
  free_aside w z b h e = omega (arith, z, fix_blk g m w b h (sym e), refs_fix g.L g.E (fix g m) (tab g K m) (dat g K m) w)

  pub data_aside : (i j : ℕ) → i < g.L → j < g.E → (b : ℕ) → b < g.B → blk g m b ≢ dat g K m i j
  data_aside i j i_l j_e b h =
      let w : 1 ≤ fix g m (blk g m b) = fix_blk g m (blk g m b) b h refl in
      fix_dat g.L g.E (fix g m) (tab g K m) (dat g K m) (blk g m b) i j i_l j_e
      (blk_0 g m (blk g m b) b h (fix_one g K ok m k0.sound _ (k0.sound.blkin b h)) refl) (k0.sound.inv.fixed _ (k0.sound.blkin b h) w) w
