-- The units of a batch lie in one cluster each, and entries in other clusters than what is stored before them. Assumes nothing.
use mathlib.Core.Path.{refl, sym, ap}
use mathlib.Core.Logic.{◌≢◌}
use mathlib.Core.List.{List}
use Prim.Native.Nat.{ℕ, ◌*◌, ◌/◌, ◌%◌, ◌≤◌, ◌<◌}
use native.Mathlib.Nat.{mod-lt}
use native.Mathlib.Omega.{arith}
use Rattle.cuts.proofs.Refs.{dat_fix, dat_tab, fix_tab}
use Rattle.cuts.proofs.Cell.{length-enc, length_recell, recell_cong, mem}
use Rattle.cuts.proofs.Meta.{Geo, GeoOk, Codec, blk, row, Has, fix, tab, dat, refs_of, cell_in, fix_blk, blk_0, blk_l1, l1_0, tree_in, row_in, row-N}
use Rattle.cuts.proofs.Step.{tab_in, dat_in, fix_one}
use Rattle.cuts.proofs.Run.{Store}
use Rattle.cuts.proofs.Call.{Ok, count_store, entry_store, link_store, in_blocks}
use Rattle.batches.proofs.Mixture.{Use, named_tab, row-fix, free-row}
use Rattle.batches.proofs.Prepared.{Ready, counts, spare, inside, idles}
use Rattle.batches.proofs.Joined.{Linking, enters, links}
use Rattle.batches.proofs.Lists.{Fit}

module _ (g : Geo) (K : Codec) (ok : GeoOk g K) (m0 : ℕ → ℕ → ℕ) (img : List ℕ) (k0 : Ok g K m0 img) where
  abbrev m : ℕ → ℕ → ℕ
  m = mem g.C img

  blk_in : (c : ℕ) → c < g.N → blk g m (c / g.H) < g.N
  blk_in c l = k0.sound.blkin (c / g.H) (in_blocks g K ok m0 c l)

  blk_fix : (c : ℕ) → c < g.N → 1 ≤ fix g m (blk g m (c / g.H))
  blk_fix c l = fix_blk g m (blk g m (c / g.H)) (c / g.H) (in_blocks g K ok m0 c l) refl

  blk_some : (c : ℕ) → c < g.N → blk g m (c / g.H) ≢ 0
  blk_some c l = blk_0 g m (blk g m (c / g.H)) (c / g.H) (in_blocks g K ok m0 c l) (fix_one g K ok m k0.sound _ (blk_in c l)) refl

  -- a cluster of an L1 table
  pub row_one : (i : ℕ) → i < g.L → Has g i → refs_of g K m (row g i) ≤ 1
  row_one i l hi = k0.sound.inv.fixed (row g i) (row-N g K ok i l hi) (row-fix g K ok m i l hi)

  pub row-some : (i : ℕ) → i < g.L → Has g i → row g i ≢ 0
  row-some i l hi =
      l1_0 g m (row g i) (i / g.M) (i % g.M / g.E) (omega (arith, tree_in g K ok i l)) (row_in g K ok i l hi) (fix_one g K ok m k0.sound (row g i) (row-N g K ok i l hi)) refl

  -- a count
  pub count_fit : (c v : ℕ) → c < g.N → Fit g.C g.N (count_store g m c v)
  unfolding count_store
  count_fit c v l =
      record {
        in_n = blk_in c l;
        in_c = λ f. omega (arith, length_recell g.W f (g.W * (c % g.H)) v, cell_in g K ok m m 0 (λ a x q d. refl) (c % g.H) (mod-lt c ok.hpos));
        local = λ f f' e. recell_cong g.W f f' (g.W * (c % g.H)) v (λ x a b. e x (omega (arith, cell_in g K ok m m 0 (λ a x q d. refl) (c % g.H) (mod-lt c ok.hpos))));
      }

  pub ready_fit : (u : Store) → Ready g K ok m0 img u → Fit g.C g.N u
  ready_fit u (counts c v l lv p h) = count_fit c v l
  ready_fit u (spare w o bs l h p z) = record { in_n = l; in_c = λ f. h; local = λ f f' e. refl }
  ready_fit u (inside i j o bs l n h p d one) = record { in_n = dat_in g K ok m k0.sound i j l n; in_c = λ f. h; local = λ f f' e. refl }
  ready_fit u (idles o bs a b q) = record { in_n = ok.npos; in_c = λ f. omega (arith, ok.idle_in); local = λ f f' e. refl }

  -- what is stored before the entries lies in no table of the first image
  pub ready-table : (i : ℕ) → i < g.L → tab g K m i ≢ 0 → (v : Store) → Ready g K ok m0 img v → tab g K m i ≢ v.w
  unfolding count_store
  ready-table i l t v (counts c n h ln p r) f =
      fix_tab g.L g.E (fix g m) (tab g K m) (dat g K m) (blk g m (c / g.H)) i l (blk_some c h) (k0.sound.inv.fixed _ (blk_in c h) (blk_fix c h)) (blk_fix c h) (sym f)
  ready-table i l t v (spare w o bs h n p z) f =
      omega (arith, named_tab g K m i l t, ap (refs_of g K m) f)
  ready-table i l t v (inside a b o bs h n y p d on) f = dat_tab g.L g.E (fix g m) (tab g K m) (dat g K m) a b i h n l d on (sym f)
  ready-table i l t v (idles o bs a b sm) f = t f

  -- nor in an L1 table
  pub ready-row : (i : ℕ) → i < g.L → Has g i → (v : Store) → Ready g K ok m0 img v → row g i ≢ v.w
  unfolding count_store
  ready-row i l hi v (counts c n h ln p r) f =
      blk_l1 g m (blk g m (c / g.H)) (c / g.H) (i / g.M) (i % g.M / g.E) (in_blocks g K ok m0 c h) (omega (arith, tree_in g K ok i l)) (row_in g K ok i l hi)
      (fix_one g K ok m k0.sound _ (blk_in c h)) refl (sym f)
  ready-row i l hi v (spare w o bs h n p y) f = free-row g K ok m i l hi w y (sym f)
  ready-row i l hi v (inside a b o bs h n y p d on) f = omega (arith, row-fix g K ok m i l hi, ap (fix g m) f, dat_fix g.L g.E (fix g m) (tab g K m) (dat g K m) a b h n d on)
  ready-row i l hi v (idles o bs a b sm) f = row-some i l hi f

  module _ (role : ℕ → Use) where
    pub linking_fit : (u : Store) → Linking g K ok m0 img k0 role u → Fit g.C g.N u
    unfolding entry_store link_store
    linking_fit u (enters i j v l k lv t one q) = record { in_n = tab_in g K ok m k0.sound i l; in_c = λ f. omega (arith, ok.c8, length-enc 8 v); local = λ f f' e. refl }
    linking_fit u (links i t l hi t_n t0 z act free used) =
        record { in_n = row-N g K ok i l hi; in_c = λ f. omega (arith, ok.c8, length-enc 8 (K.mk t), mod-lt (i % g.M) ok.epos); local = λ f f' e. refl }

    -- nor where entries of the batch are stored
    pub linking_apart : (u v : Store) → Linking g K ok m0 img k0 role u → Ready g K ok m0 img v → u.w ≢ v.w
    unfolding entry_store link_store
    linking_apart u v (enters i j e l k lv t one q) h f = ready-table i l t v h f
    linking_apart u v (links i t l hi t_n t0 z act free used) h f = ready-row i l hi v h f
