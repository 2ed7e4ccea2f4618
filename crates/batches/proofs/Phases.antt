-- The units of a batch in phases: what is stored before the entries, the entries, the counts that fall. Whichever units of the phase at work are
-- stored, the image is sound or leaking. Assumes nothing.
use mathlib.Core.Path.{◌≡◌, sym, ap, ◌∙◌}
use mathlib.Core.Logic.{◌⊎◌, inl, inr, ◌≢◌}
use mathlib.Core.Bool.{Bool}
use mathlib.Core.List.{List, ◌∷◌}
use Prim.Native.Nat.{ℕ, ◌/◌, ◌^◌, ◌≤◌, ◌<◌}
use native.Mathlib.Decide.{ℕ_discrete}
use native.Mathlib.Omega.{arith}
use Rattle.cuts.proofs.Cell.{mem}
use Rattle.cuts.proofs.Meta.{Geo, GeoOk, Codec, blk, l2, tab, refs_of, keep_tab, keep_refs}
use Rattle.cuts.proofs.Run.{Store, apply, apply_all, picked, Each, none, also, kept}
use Rattle.cuts.proofs.Call.{Ok, count_store, count_store_same, in_blocks}
use Rattle.batches.proofs.Mixture.{Use, unused, table, Put}
use Rattle.batches.proofs.Prepared.{Prepared, Ready, prepared_start, count_keeps, ready-all, Raises, raised}
use Rattle.batches.proofs.Joined.{Joined, Linking, linking_all, linking_cut}
use Rattle.batches.proofs.Lists.{Fit, Agree, Apart, Whole, all_whole, all_apart, all_agree, each_map, Merge, merge-left, merge-right}
use Rattle.batches.proofs.Units.{ready_fit, linking_fit, linking_apart}

module _ (g : Geo) (K : Codec) (ok : GeoOk g K) (m0 : ℕ → ℕ → ℕ) (img : List ℕ) (k0 : Ok g K m0 img) (role : ℕ → Use)
    (r l : List Store) (er : Each (Ready g K ok m0 img) r) (el : Each (Linking g K ok m0 img k0 role) l) where
  abbrev m : ℕ → ℕ → ℕ
  m = mem g.C img

  -- the image before the entries, and after them
  abbrev pub middle : List ℕ
  middle = apply_all g.C r img

  abbrev pub late : List ℕ
  late = apply_all g.C l middle

  fits_r : Each (Fit g.C g.N) r
  fits_r = each_map (ready_fit g K ok m0 img k0) er

  fits_l : Each (Fit g.C g.N) l
  fits_l = each_map (linking_fit g K ok m0 img k0 role) el

  -- no cluster is stored into by both
  one_phase : (k : ℕ) → Each (Apart g.C g.N k) l ⊎ Each (Apart g.C g.N k) r
  one_phase k = go el
    where
      meets : (u : Store) → Linking g K ok m0 img k0 role u → k ≡ u.w → Each (Apart g.C g.N k) r
      meets u p e = each_map (λ v q f. linking_apart g K ok m0 img k0 role u v p q (sym e ∙ f)) er

      put : (u : Store) {us : List Store} → Linking g K ok m0 img k0 role u → Dec (k ≡ u.w) → Each (Apart g.C g.N k) us ⊎ Each (Apart g.C g.N k) r
          → Each (Apart g.C g.N k) (u ∷ us) ⊎ Each (Apart g.C g.N k) r
      put u p (yes e) h = inr (meets u p e)
      put u p (no d) (inl h) = inl (also d h)
      put u p (no d) (inr h) = inr h

      go : {us : List Store} → Each (Linking g K ok m0 img k0 role) us → Each (Apart g.C g.N k) us ⊎ Each (Apart g.C g.N k) r
      go none = inl none
      go (also {u} p ps) = put u p (ℕ_discrete k u.w) (go ps)

  -- so the two phases leave what the calls leave in their own order
  pub two_phases : (rl : List Store) → Merge r l rl → (k : ℕ) → Agree g.C g.N k late (apply_all g.C rl img)
  two_phases rl mg k x h = go (one_phase k)
    where
      wm : Whole g.C g.N middle
      wm = all_whole g.C g.N r img k0.len

      go : Each (Apart g.C g.N k) l ⊎ Each (Apart g.C g.N k) r → mem g.C late k x ≡ mem g.C (apply_all g.C rl img) k x
      go (inl a) = all_apart g.C g.N k fits_l a middle wm x h ∙ sym (merge-left g.C g.N k mg fits_r fits_l a img k0.len x h)
      go (inr a) =
          all_agree g.C g.N k fits_l middle img wm k0.len (all_apart g.C g.N k fits_r a img k0.len) x h
          ∙ sym (merge-right g.C g.N k mg fits_r fits_l a img k0.len x h)

  -- ---- before the entries
  prepared : Prepared g K ok m0 img middle
  prepared = ready-all g K ok m0 img er img (prepared_start g K ok m0 img k0)

  -- ---- among them
  module _ (raise : (c : ℕ) → c < g.N → role c ≢ unused → Raises g K ok m0 img c r)
      (fill : (t i j : ℕ) → t < g.N → role t ≡ table i → refs_of g K m t ≡ 0 → j < g.E → Put g K m role i j (l2 g (mem g.C middle) t j)) where
    pub start : Joined g K ok m0 img k0 role middle
    start =
        record {
          fine = prepared.fine;
          mix = record {
            small = prepared.fine.sound.bytes;
            rts = prepared.keep.rts;
            l1s = λ i h. inl (prepared.keep.l1s i h);
            l2s = λ i j h n d. let t : tab g K (mem g.C middle) i ≡ tab g K m i = keep_tab g K ok m (mem g.C middle) prepared.keep i h in
                inl (record { some = λ z. d (t ∙ z); entry = rw t (prepared.keep.l2s i j h n (λ z. d (t ∙ z))) });
          };
          counts = λ c h. rw (keep_refs g K ok m (mem g.C middle) prepared.keep c) at (prepared.fine.sound.inv.covered c h);
          ones = λ c h n. raised g K ok m0 img c h er (raise c h n) img (prepared_start g K ok m0 img k0);
          filled = fill;
        }

    pub among_cut : (cs : List Bool) → Joined g K ok m0 img k0 role (apply_all g.C (picked cs l) middle)
    among_cut cs = linking_cut g K ok m0 img k0 role el cs middle start

    pub joined-late : Joined g K ok m0 img k0 role late
    joined-late = linking_all g K ok m0 img k0 role el middle start

    -- ---- after them
    late_blk : (b : ℕ) → b < g.B → blk g (mem g.C late) b ≡ blk g m b
    unfolding blk
    late_blk b h = ap (λ (n : ℕ). n / g.C) (joined-late.mix.rts b (omega (arith, ok.rtfit)))

    -- a count that covers the references
    pub data Falling : Store → Type 0 where
      falls : (c v : ℕ) → c < g.N → v < 2 ^ g.W → refs_of g K (mem g.C late) c ≤ v → Falling (count_store g m c v)

    falling_keeps : (u : Store) → Falling u → (s : List ℕ) → Prepared g K ok m0 late s → Prepared g K ok m0 late (apply g.C u s)
    falling_keeps u (falls c v h lv n) s p =
        rw (count_store_same g K ok m0 m (mem g.C late) c v (late_blk (c / g.H) (in_blocks g K ok m0 c h))) at (count_keeps g K ok m0 late s p c v h lv n)

    pub after_cut : (f : List Store) → Each Falling f → (cs : List Bool) → Prepared g K ok m0 late (apply_all g.C (picked cs f) late)
    after_cut f ef cs = kept g.C (Prepared g K ok m0 late) (each_map (λ u p s. falling_keeps u p s) ef) cs late (prepared_start g K ok m0 late joined-late.fine)
