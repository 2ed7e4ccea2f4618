-- A batch that is stored whole leaves the image that its calls leave in memory, byte for byte. Assumes nothing.
use mathlib.Core.Path.{◌≡◌, refl, sym, ap, ◌∙◌, subst}
use mathlib.Core.Logic.{◌⊎◌, inl, inr, ◌≢◌}
use mathlib.Core.Bool.{true}
use mathlib.Core.List.{List}
use Prim.Native.Nat.{ℕ, zero, suc, ◌+◌, ◌*◌, ◌/◌, ◌%◌, ◌≤◌, ◌<◌}
use native.Mathlib.Nat.{mod-lt, div-add-mod', div-eq_of_lt, mul-add-div_right, mul-le-mul_right, not-suc-le-zero}
use native.Mathlib.Decide.{ℕ_discrete}
use native.Mathlib.Omega.{arith}
use lib.ListN.{length, get_or, replicate}
use lib.Seq.{ext_get_or}
use Rattle.cuts.proofs.Refs.{fix_tab}
use Rattle.cuts.proofs.Cell.{mem}
use Rattle.cuts.proofs.Meta.{Geo, GeoOk, Codec, blk, fix, tab, dat, blk_0, blk_l1, fix_blk, tree_in, row_in}
use Rattle.cuts.proofs.Step.{fix_one}
use Rattle.cuts.proofs.Run.{Each, Store, apply_all}
use Rattle.cuts.proofs.Call.{Ok, entry_store, link_store}
use Rattle.batches.proofs.Mixture.{Use}
use Rattle.batches.proofs.Joined.{Linking, enters, links}
use Rattle.batches.proofs.Units.{linking_fit}
use Rattle.batches.proofs.Cells.{cells_bytes}
use Rattle.batches.proofs.Lists.{Agree, Whole, all_whole, all_apart, each_map, picked-whole}
use Rattle.batches.proofs.Order.{cell_at, Cell, Touch, passes, Effect, stays, becomes, effect}
use Rattle.batches.proofs.Extend.{lowers_touch}
use Rattle.batches.proofs.Planned.{Planned, Settled, middle_image, late_image, late_agree, lowers_fit, lowers_apart, cut_after}

module _ (g : Geo) (K : Codec) (ok : GeoOk g K) (m0 : ℕ → ℕ → ℕ) (img : List ℕ) (k0 : Ok g K m0 img) (role : ℕ → Use) (dead : ℕ → Type 0)
    (r l f : List Store) (s : List ℕ) (p : Planned g K ok m0 img k0 role dead r l f s) (settled : Settled g K ok m0 img k0 role s) where
  abbrev m : ℕ → ℕ → ℕ
  m = mem g.C img

  abbrev middle : List ℕ
  middle = middle_image g K ok m0 img k0 role dead r l f s p settled

  abbrev late : List ℕ
  late = late_image g K ok m0 img k0 role dead r l f s p settled

  abbrev end : List ℕ
  end = apply_all g.C f late

  fine : Ok g K m0 end
  fine = subst (λ (us : List Store). Ok g K m0 (apply_all g.C us late)) (picked-whole f) (cut_after g K ok m0 img k0 role dead r l f s p settled (replicate (length f) true)).fine

  -- entries lie in no block
  pub linking_aside : (u : Store) → Linking g K ok m0 img k0 role u → (b : ℕ) → b < g.B → blk g m b ≢ u.w
  unfolding entry_store link_store
  linking_aside u (enters i j v i_l j_e lv t one q) b h =
      let w : 1 ≤ fix g m (blk g m b) = fix_blk g m (blk g m b) b h refl in
      fix_tab g.L g.E (fix g m) (tab g K m) (dat g K m) (blk g m b) i i_l (blk_0 g m (blk g m b) b h (fix_one g K ok m k0.sound _ (k0.sound.blkin b h)) refl)
      (k0.sound.inv.fixed _ (k0.sound.blkin b h) w) w
  linking_aside u (links i t i_l hi t_n t0 z act free used) b h =
      blk_l1 g m (blk g m b) b (i / g.M) (i % g.M / g.E) h (omega (arith, tree_in g K ok i i_l)) (row_in g K ok i i_l hi) (fix_one g K ok m k0.sound _ (k0.sound.blkin b h)) refl

  linking_passes : (u : Store) → Linking g K ok m0 img k0 role u → Touch g K ok m0 img k0 (λ c. ⊥) u
  linking_passes u h = passes _ (linking_fit g K ok m0 img k0 role u h) (linking_aside u h)

  -- so no entry lies where counts fall
  pub entries-apart : Each (λ (y : Store). Each (λ (v : Store). v.w ≢ y.w) l) f
  entries-apart = each_map (λ y w. each_map (λ v h e. lowers_apart g K ok m0 img k0 role dead r l f s p settled v.w (λ b n q. linking_aside v h b n (sym q)) y w e) p.linking) p.falling

  wm : Whole g.C g.N middle
  wm = all_whole g.C g.N r img k0.len

  wl : Whole g.C g.N late
  wl = all_whole g.C g.N l middle wm

  -- every count is that in memory
  counts_same : (c : ℕ) → Cell g K ok m0 img k0 c → cell_at g K ok m0 img k0 end c ≡ cell_at g K ok m0 img k0 s c
  counts_same c h = go (effect g K ok m0 img k0 (λ n. ⊥) (each_map linking_passes p.linking) c h) (effect g K ok m0 img k0 dead (each_map (lowers_touch g K ok m0 img k0 dead s) p.falling) c h)
    where
      go : Effect g K ok m0 img k0 (λ n. ⊥) l c → Effect g K ok m0 img k0 dead f c → cell_at g K ok m0 img k0 end c ≡ cell_at g K ok m0 img k0 s c
      go (becomes v a b) w = absurd b
      go (stays a) (becomes v k d) = k late wl ∙ sym (k middle wm) ∙ p.order c h
      go (stays a) (stays k) = k late wl ∙ a middle wm ∙ sym (k middle wm) ∙ p.order c h

  -- a cluster is a block or not
  find : (k n : ℕ) → ((b : ℕ) × (b < n) × (k ≡ blk g m b)) ⊎ ((b : ℕ) → b < n → k ≢ blk g m b)
  find k zero = inr (λ b h. absurd (not-suc-le-zero h))
  find k (suc n) = go (ℕ_discrete k (blk g m n)) (find k n)
    where
      go : Dec (k ≡ blk g m n) → ((b : ℕ) × (b < n) × (k ≡ blk g m b)) ⊎ ((b : ℕ) → b < n → k ≢ blk g m b) → ((b : ℕ) × (b < suc n) × (k ≡ blk g m b)) ⊎ ((b : ℕ) → b < suc n → k ≢ blk g m b)
      go (yes e) w = inl (n, omega arith, e)
      go (no d) (inl w) = inl (w.0, omega (arith, w.1), w.2)
      go (no d) (inr w) = inr (λ b h. pick b h (ℕ_discrete b n))
        where
          pick : (b : ℕ) → b < suc n → Dec (b ≡ n) → k ≢ blk g m b
          pick b h (yes e) = rw e d
          pick b h (no e) = w b (omega arith)

  block_same : (b : ℕ) → b < g.B → Agree g.C g.N (blk g m b) end s
  block_same b h =
      cells_bytes g.C g.W g.H (mem g.C end (blk g m b)) (mem g.C s (blk g m b)) (λ o. fine.small (blk g m b * g.C + o)) (λ o. p.fine.small (blk g m b * g.C + o)) ok.even ok.fit ok.wpos ok.cw
      (λ i n. let c : ℕ = b * g.H + i in
      let d : (b * g.H + i) / g.H ≡ b = div_part b i n in
      let e : (b * g.H + i) % g.H ≡ i = mod_part b i n in
      rw (d, e) at (counts_same (b * g.H + i) (omega (arith, n, mul-le-mul_right g.H h))))
    where
      div_part : (a i : ℕ) → i < g.H → (a * g.H + i) / g.H ≡ a
      div_part a i n = omega (arith, mul-add-div_right ok.hpos a i, div-eq_of_lt n)

      mod_part : (a i : ℕ) → i < g.H → (a * g.H + i) % g.H ≡ i
      mod_part a i n = omega (arith, div-add-mod' (a * g.H + i) g.H, ap (λ (y : ℕ). y * g.H) (div_part a i n))

  agree_all : (k : ℕ) → Agree g.C g.N k end s
  agree_all k = go (find k g.B)
    where
      go : ((b : ℕ) × (b < g.B) × (k ≡ blk g m b)) ⊎ ((b : ℕ) → b < g.B → k ≢ blk g m b) → Agree g.C g.N k end s
      go (inl w) = rw w.2 (block_same w.0 w.1)
      go (inr w) = λ o h.
          all_apart g.C g.N k (each_map (lowers_fit g K ok m0 img k0 role dead r l f s p settled) p.falling) (each_map (lowers_apart g K ok m0 img k0 role dead r l f s p settled k w) p.falling) late wl o h
          ∙ late_agree g K ok m0 img k0 role dead r l f s p settled k w o h

  pub whole-stored : end ≡ s
  whole-stored =
      ext_get_or 0 end s (fine.len ∙ sym p.fine.len)
      (λ i h. ap (λ (n : ℕ). get_or end n 0) (sym (div-add-mod' i g.C)) ∙ agree_all (i / g.C) (i % g.C) (mod-lt i cpos) ∙ ap (λ (n : ℕ). get_or s n 0) (div-add-mod' i g.C))
    where
      cpos : 0 < g.C
      cpos = omega (arith, ok.c8, ok.epos)
