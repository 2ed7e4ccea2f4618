-- What is known of the values of entries stays known when a count is stored, and when a cluster is taken and filled. Assumes nothing.
use mathlib.Core.Path.{◌≡◌, sym, ap, ◌∙◌, subst}
use mathlib.Core.Logic.{◌⊎◌, inl, inr, ◌≢◌}
use mathlib.Core.List.{List, [], ◌∷◌}
use Prim.Native.Nat.{ℕ, suc, ◌+◌, ◌/◌, ◌^◌, ◌≤◌, ◌<◌}
use native.Mathlib.Decide.{ℕ_discrete}
use native.Mathlib.Omega.{arith}
use lib.ListN.{length}
use Rattle.cuts.proofs.Cell.{Small, mem}
use Rattle.cuts.proofs.Meta.{Geo, GeoOk, Codec, cnt, fix, tab, refs_of, fix_blk}
use Rattle.cuts.proofs.Run.{Store, apply, apply_all, fill, Each, none, also}
use Rattle.cuts.proofs.Call.{Ok, count_store, CountSet, in_blocks}
use Rattle.batches.proofs.Mixture.{Use, unused, table}
use Rattle.batches.proofs.Lists.{Agree, Apart, apply-apart, length-apply, all_apart, each_map}
use Rattle.batches.proofs.Units.{count_fit, ready_fit}
use Rattle.batches.proofs.Planned.{Planned, blk_eq}
use Rattle.batches.proofs.Links.{spare_fill}
use Rattle.batches.proofs.Steps.{set-count}
use Rattle.batches.proofs.Allots.{no_refs, no_refs₀, allot_keep, allot_cnt}
use Rattle.batches.proofs.Known.{Known, knows_keep}

-- a fill stores into its cluster alone
pub fill-apart : (C N k w o : ℕ) (bs : List ℕ) → k ≢ w → Each (Apart C N k) (fill w o bs)
unfolding fill
fill-apart C N k w o [] d = none
fill-apart C N k w o (b ∷ bs) d = also d (fill-apart C N k w (suc o) bs d)

module _ (g : Geo) (K : Codec) (ok : GeoOk g K) (m0 : ℕ → ℕ → ℕ) (img : List ℕ) (k0 : Ok g K m0 img) (role : ℕ → Use) (dead : ℕ → Type 0)
    (r l f : List Store) (s : List ℕ) (p : Planned g K ok m0 img k0 role dead r l f s) (past : (ℕ → ℕ → ℕ) → Type 0) where
  abbrev m : ℕ → ℕ → ℕ
  m = mem g.C img

  abbrev x : ℕ → ℕ → ℕ
  x = mem g.C s

  -- a count lies in a block
  pub count-bytes : (c v : ℕ) → c < g.N → (a : ℕ) → fix g x a ≡ 0 → Agree g.C g.N a (apply g.C (count_store g m c v) s) s
  unfolding count_store
  count-bytes c v h a z =
      apply-apart g.C g.N a (count_store g m c v) s (count_fit g K ok m0 img k0 c v h) p.fine.len
      (λ e. omega (arith, z, fix_blk g x a (c / g.H) (in_blocks g K ok m0 c h) (e ∙ sym (blk_eq g x m (c / g.H) (p.mix.rts (c / g.H) (omega (arith, ok.rtfit, in_blocks g K ok m0 c h)))))))

  -- ---- a count falls
  pub knows_fall : (c v : ℕ) → c < g.N → v < 2 ^ g.W → refs_of g K x c ≤ v → (i j w : ℕ) → i < g.L → j < g.E → K.clus w < g.N → Known g K past x dead i j w
      → Known g K past (mem g.C (apply g.C (count_store g m c v) s)) (λ a. dead a ⊎ (a ≡ c)) i j w
  knows_fall c v h lv n i j w i_l j_e w_n =
      knows_keep g K ok past x _ p.fine.sound dead q.keep (λ a. dead a ⊎ (a ≡ c)) (λ a b y. more a b y (ℕ_discrete a c)) (λ a b z y. count-bytes c v h a z) i j w i_l j_e w_n
    where
      q : CountSet g K ok m0 s (apply g.C (count_store g m c v) s) c v
      q = set-count g K ok m0 img k0 role dead r l f s p c v h lv n

      more : (a : ℕ) → a < g.N → dead a ⊎ (1 ≤ cnt g x a) → Dec (a ≡ c) → (dead a ⊎ (a ≡ c)) ⊎ (1 ≤ cnt g (mem g.C (apply g.C (count_store g m c v) s)) a)
      more a b y (yes e) = inl (inr e)
      more a b (inl d) (no e) = inl (inl d)
      more a b (inr d) (no e) = inr (rw (q.rest a b e) d)

  -- ---- a cluster is taken and filled
  module _ (c : ℕ) (u : Use) (some : u ≢ unused) (empties : (i : ℕ) → u ≡ table i → (i < g.L) × (tab g K x i ≡ 0)) (A : List ℕ)
      (c_n : c < g.N) (zeroed : cnt g x c ≡ 0) (spared : dead c → ⊥) (l_a : 0 + length A ≤ g.C) (sm_a : Small A) where
    abbrev t₂ : List ℕ
    t₂ = apply_all g.C (fill c 0 A) (apply g.C (count_store g m c 1) s)

    z₀ : refs_of g K m c ≡ 0
    z₀ = no_refs₀ g K ok m0 img k0 role dead r l f s p c u some empties A c_n zeroed spared l_a sm_a

    pub allot-bytes : (a : ℕ) → a ≢ c → fix g x a ≡ 0 → Agree g.C g.N a t₂ s
    allot-bytes a d z o h =
        all_apart g.C g.N a (each_map (ready_fit g K ok m0 img k0) (spare_fill g K ok m0 img k0 role dead r l f s p c 0 A c_n l_a sm_a z₀)) (fill-apart g.C g.N a c 0 A d)
        (apply g.C (count_store g m c 1) s) (length-apply g.C g.N (count_store g m c 1) s ∙ p.fine.len) o h
        ∙ count-bytes c 1 c_n a z o h

    -- a cluster that is named, or may not be taken, is another one
    pub other : (a : ℕ) → (1 ≤ refs_of g K x a) ⊎ (dead a ⊎ (1 ≤ cnt g x a)) → a ≢ c
    other a (inl h) e = omega (arith, h, ap (refs_of g K x) e, no_refs g K ok m0 img k0 role dead r l f s p c u some empties A c_n zeroed spared l_a sm_a)
    other a (inr (inl h)) e = spared (subst dead e h)
    other a (inr (inr h)) e = omega (arith, h, ap (cnt g x) e, zeroed)

    pub knows_allot : (i j w : ℕ) → i < g.L → j < g.E → K.clus w < g.N → Known g K past x dead i j w → Known g K past (mem g.C t₂) dead i j w
    knows_allot =
        knows_keep g K ok past x (mem g.C t₂) p.fine.sound dead (allot_keep g K ok m0 img k0 role dead r l f s p c u some empties A c_n zeroed spared l_a sm_a) dead more
        (λ a b z y. allot-bytes a (other a y) z)
      where
        more : (a : ℕ) → a < g.N → dead a ⊎ (1 ≤ cnt g x a) → dead a ⊎ (1 ≤ cnt g (mem g.C t₂) a)
        more a b (inl d) = inl d
        more a b (inr d) = inr (rw (allot_cnt g K ok m0 img k0 role dead r l f s p c u some empties A c_n zeroed spared l_a sm_a a b (other a (inr (inr d)))) d)
