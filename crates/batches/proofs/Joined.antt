-- Entries of a batch that may be stored in any order once what they name is stored: each leaves an image that is sound or leaking. Assumes nothing.
use mathlib.Core.Path.{◌≡◌, refl, sym, ap, ◌∙◌}
use mathlib.Core.Logic.{◌≢◌}
use mathlib.Core.Bool.{Bool}
use mathlib.Core.List.{List}
use Prim.Native.Nat.{ℕ, ◌+◌, ◌*◌, ◌^◌, ◌≤◌, ◌<◌}
use native.Mathlib.Decide.{dec_lt}
use native.Mathlib.Omega.{arith}
use lib.Seq.{sets}
use Rattle.cuts.proofs.Refs.{tab_fix}
use Rattle.cuts.proofs.Cell.{enc, small-enc, Small, Stored, mem}
use Rattle.cuts.proofs.Meta.{Geo, GeoOk, Codec, cnt, row, col, Has, l2, fix, tab, dat, refs_of, l2_off, tree_in}
use Rattle.cuts.proofs.Step.{free-not-0, entry_cnt, at-not-0, link_away, link_cnt}
use Rattle.cuts.proofs.Run.{Store, apply, apply_all, picked, Each, none, also, kept}
use Rattle.cuts.proofs.Call.{Ok, entry_store, link_store, away, ok_next}
use Rattle.batches.proofs.Mixture.{Use, unused, table, datum, used_table, used_datum, Put, Mixture, named_tab, mix_tab, mix_sound, old_refs, new_refs, unused_refs, free-row}
use Rattle.batches.proofs.Lists.{each_map}
use Rattle.batches.proofs.Stores.{Laid, laid_entry, laid_link, entry_mixture, link_mixture}

module _ (g : Geo) (K : Codec) (ok : GeoOk g K) (m0 : ℕ → ℕ → ℕ) (img : List ℕ) (k0 : Ok g K m0 img) (role : ℕ → Use) where
  abbrev m : ℕ → ℕ → ℕ
  m = mem g.C img

  -- some entries are new; what they name has its count, and the new tables are filled
  pub record Joined (s : List ℕ) : Type 0 where
    pub fine : Ok g K m0 s
    pub mix : Mixture g K m role (mem g.C s)
    pub counts : (c : ℕ) → c < g.N → refs_of g K m c ≤ cnt g (mem g.C s) c
    pub ones : (c : ℕ) → c < g.N → role c ≢ unused → 1 ≤ cnt g (mem g.C s) c
    pub filled : (t i j : ℕ) → t < g.N → role t ≡ table i → refs_of g K m t ≡ 0 → j < g.E → Put g K m role i j (l2 g (mem g.C s) t j)

  pub data Linking : Store → Type 0 where
    enters : (i j v : ℕ) → i < g.L → j < g.E → v < 256 ^ 8 → tab g K m i ≢ 0 → refs_of g K m (tab g K m i) ≤ 1 → Put g K m role i j v
        → Linking (entry_store g (tab g K m i) j v)
    links : (i t : ℕ) → i < g.L → Has g i → t < g.N → t ≢ 0 → tab g K m i ≡ 0 → i < g.M → refs_of g K m t ≡ 0 → role t ≡ table i → Linking (link_store g i (K.mk t))

  -- the counts cover the references
  covered : (x : ℕ → ℕ → ℕ) → Mixture g K m role x → ((c : ℕ) → c < g.N → refs_of g K m c ≤ cnt g x c) → ((c : ℕ) → c < g.N → role c ≢ unused → 1 ≤ cnt g x c)
      → (c : ℕ) → c < g.N → refs_of g K x c ≤ cnt g x c
  covered x w h n c l = go (dec_lt 0 (refs_of g K m c)) (role c) refl
    where
      free : ¬ (0 < refs_of g K m c) → refs_of g K m c ≡ 0
      free d = omega arith

      go : Dec (0 < refs_of g K m c) → (r : Use) → role c ≡ r → refs_of g K x c ≤ cnt g x c
      go (yes p) r e = omega (arith, old_refs g K ok m x role k0.sound w c p, h c l)
      go (no d) unused e = omega (arith, unused_refs g K ok m x role k0.sound w c (free d) (free-not-0 g K ok m k0.sound c (free d)) e)
      go (no d) (table i) e = omega (arith, new_refs g K ok m x role k0.sound w c (free d) (free-not-0 g K ok m k0.sound c (free d)), n c l (λ f. used_table i (sym e ∙ f)))
      go (no d) (datum i j) e = omega (arith, new_refs g K ok m x role k0.sound w c (free d) (free-not-0 g K ok m k0.sound c (free d)), n c l (λ f. used_datum i j (sym e ∙ f)))

  -- an image whose tables are such a mixture
  joined : (s : List ℕ) (w o : ℕ) (bs : List ℕ) → Joined s → w ≢ 0 → ((q : ℕ) → q < g.span g.T → w ≢ g.root g.T + q) → Small bs
      → Stored g.C (mem g.C s) (mem g.C (sets s (w * g.C + o) bs)) w o bs
      → Mixture g K m role (mem g.C (sets s (w * g.C + o) bs))
      → ((c : ℕ) → c < g.N → cnt g (mem g.C (sets s (w * g.C + o) bs)) c ≡ cnt g (mem g.C s) c)
      → ((t j : ℕ) → t < g.N → refs_of g K m t ≡ 0 → j < g.E → l2 g (mem g.C (sets s (w * g.C + o) bs)) t j ≡ l2 g (mem g.C s) t j)
      → Joined (sets s (w * g.C + o) bs)
  joined s w o bs p d aw sm st mix same tables =
      record {
        fine = ok_next g K ok m0 s w o bs p.fine d aw sm st (λ k l. mix.rts k l ∙ sym (p.mix.rts k l))
            (mix_sound g K ok m _ role k0.sound mix (covered _ mix counts ones));
        mix = mix;
        counts = counts;
        ones = ones;
        filled = λ t i j l e z n. rw (tables t j l z n) (p.filled t i j l e z n);
      }
    where
      counts : (c : ℕ) → c < g.N → refs_of g K m c ≤ cnt g (mem g.C (sets s (w * g.C + o) bs)) c
      counts c l = rw (same c l) (p.counts c l)

      ones : (c : ℕ) → c < g.N → role c ≢ unused → 1 ≤ cnt g (mem g.C (sets s (w * g.C + o) bs)) c
      ones c l n = rw (same c l) (p.ones c l n)

  -- ---- one entry of a table of the first image
  module _ (s : List ℕ) (p : Joined s) (i : ℕ) (l : i < g.L) (t : tab g K m i ≢ 0) (one : refs_of g K m (tab g K m i) ≤ 1) where
    abbrev x : ℕ → ℕ → ℕ
    x = mem g.C s

    -- the table stays, with its one reference
    same_tab : tab g K x i ≡ tab g K m i
    same_tab = (mix_tab g K ok m x role k0.sound p.mix i l t).1

    pub tab_some : tab g K x i ≢ 0
    tab_some z = t (sym same_tab ∙ z)

    pub tab_alone : refs_of g K x (tab g K x i) ≤ 1
    tab_alone = rw same_tab (omega (arith, one, old_refs g K ok m x role k0.sound p.mix (tab g K m i) (named_tab g K m i l t)))

    module _ (j v : ℕ) (k : j < g.E) (lv : v < 256 ^ 8) (q : Put g K m role i j v) where
      lay : Laid g s (tab g K x i) (8 * j) v
      lay = laid_entry g K ok m0 s p.fine i j v l k

      abbrev x' : ℕ → ℕ → ℕ
      x' = mem g.C (sets s (tab g K x i * g.C + 8 * j) (enc 8 v))

      enter_mix : Mixture g K m role x'
      enter_mix = entry_mixture g K ok m role x x' p.fine.sound p.mix lay.small i j v l k tab_some tab_alone lv q lay.stored

      pub enter : Joined (apply g.C (entry_store g (tab g K m i) j v) s)
      unfolding apply entry_store
      enter =
          rw same_tab at
          (joined s (tab g K x i) (8 * j) (enc 8 v) p tab_some (away g K ok m0 x (tab g K x i) (tab_fix g.L g.E (fix g x) (tab g K x) (dat g K x) i l tab_some tab_alone)) (small-enc 8 v) lay.stored enter_mix
          (entry_cnt g K ok x p.fine.sound x' lay.small i j v l k tab_some tab_alone q.good lv lay.stored)
          (λ u b h z n. l2_off g K ok x x' (tab g K x i) lay.stored.cluster u b n (λ e. omega (arith, named_tab g K m i l t, ap (refs_of g K m) (sym same_tab ∙ sym e), z))))

  -- ---- one L1 entry
  module _ (s : List ℕ) (p : Joined s) (i t : ℕ) (l : i < g.L) (hi : Has g i) (t_n : t < g.N) (t0 : t ≢ 0) (z : tab g K m i ≡ 0) (act : i < g.M) (free : refs_of g K m t ≡ 0) (used : role t ≡ table i) where
    abbrev y : ℕ → ℕ → ℕ
    y = mem g.C s

    lay_link : Laid g s (row g i) (8 * col g i) (K.mk t)
    lay_link = laid_link g K ok m0 s p.fine i (K.mk t) l hi

    abbrev y' : ℕ → ℕ → ℕ
    y' = mem g.C (sets s (row g i * g.C + 8 * col g i) (enc 8 (K.mk t)))

    kept_l2 : (u b : ℕ) → b < g.E → refs_of g K m u ≡ 0 → l2 g y' u b ≡ l2 g y u b
    kept_l2 u b n e = l2_off g K ok y y' (row g i) lay_link.stored.cluster u b n (free-row g K ok m i l hi u e)

    link_mix : Mixture g K m role y'
    link_mix = link_mixture g K ok m role y y' p.fine.sound p.mix lay_link.small i t l hi t_n t0 z act free used (λ b n. rw (kept_l2 t b n free) (p.filled t i b t_n used free n)) lay_link.stored

    pub link : Joined (apply g.C (link_store g i (K.mk t)) s)
    unfolding apply link_store
    link =
        joined s (row g i) (8 * col g i) (enc 8 (K.mk t)) p (at-not-0 g K ok y p.fine.sound y' lay_link.small i t l hi t_n lay_link.stored)
        (λ q b. link_away g K ok y p.fine.sound y' lay_link.small i t l hi t_n lay_link.stored g.T q (omega arith) b (λ e. omega (arith, tree_in g K ok i l, e)))
        (small-enc 8 (K.mk t)) lay_link.stored link_mix
        (link_cnt g K ok y p.fine.sound y' lay_link.small i t l hi t_n lay_link.stored)
        (λ u b h e n. kept_l2 u b n e)

  pub linking_keeps : (u : Store) → Linking u → (s : List ℕ) → Joined s → Joined (apply g.C u s)
  linking_keeps u (enters i j v l k lv t one q) s p = enter s p i l t one j v k lv q
  linking_keeps u (links i t l hi t_n t0 z act free used) s p = link s p i t l hi t_n t0 z act free used

  pub linking_all : {us : List Store} → Each Linking us → (s : List ℕ) → Joined s → Joined (apply_all g.C us s)
  unfolding apply_all
  linking_all none s p = p
  linking_all (also {u} h hs) s p = linking_all hs (apply g.C u s) (linking_keeps u h s p)

  pub linking_cut : {us : List Store} → Each Linking us → (cs : List Bool) (s : List ℕ) → Joined s → Joined (apply_all g.C (picked cs us) s)
  linking_cut h = kept g.C Joined (each_map (λ u p s. linking_keeps u p s) h)
