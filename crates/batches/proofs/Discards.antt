-- A discard in a batch. Assumes nothing.
use mathlib.Core.Path.{◌≡◌, sym, ap, ◌∙◌}
use mathlib.Core.Logic.{◌⊎◌, inl, inr, ◌≢◌}
use mathlib.Core.List.{List, [], ◌∷◌, ◌++◌}
use Prim.Native.Nat.{ℕ, ◌-◌, ◌^◌, ◌≤◌, ◌<◌}
use native.Mathlib.Omega.{arith}
use Rattle.cuts.proofs.Refs.{hit, hit_self, hit_zero}
use Rattle.cuts.proofs.Cell.{mem}
use Rattle.cuts.proofs.Meta.{Geo, GeoOk, Codec, cnt, l2, tab, dat, refs_of, dat_some}
use Rattle.cuts.proofs.Step.{dat_in}
use Rattle.cuts.proofs.Run.{Store, apply}
use Rattle.cuts.proofs.Call.{Ok, count_store, entry_store, cnt_small}
use Rattle.batches.proofs.Mixture.{Use, Put, Old}
use Rattle.batches.proofs.Planned.{Planned}
use Rattle.batches.proofs.Extend.{Step, extend, compose}
use Rattle.batches.proofs.Places.{Home, old, new, home}
use Rattle.batches.proofs.Steps.{before, among, entry-step, entry-moved, fall_step}

module _ (g : Geo) (K : Codec) (ok : GeoOk g K) (m0 : ℕ → ℕ → ℕ) (img : List ℕ) (k0 : Ok g K m0 img) (role : ℕ → Use) (dead : ℕ → Type 0)
    (r l f : List Store) (s : List ℕ) (p : Planned g K ok m0 img k0 role dead r l f s) (i j : ℕ) (i_l : i < g.L) (j_e : j < g.E) (act : i < g.M) where
  abbrev m : ℕ → ℕ → ℕ
  m = mem g.C img

  abbrev x : ℕ → ℕ → ℕ
  x = mem g.C s

  -- where an entry is to be changed, its place in the first image had one reference at most
  pub left_of : tab g K x i ≢ 0 → (dat g K x i j ≢ 0 → refs_of g K x (dat g K x i j) ≤ 1) → dat g K m i j ≢ 0 → refs_of g K m (dat g K m i j) ≤ 1
  left_of some alone d = go (p.mix.l2s i j i_l j_e some)
    where
      same : dat g K x i j ≡ dat g K m i j → refs_of g K m (dat g K m i j) ≤ 1
      same e = at_home (home g K ok m0 img k0 role x p.mix i j i_l j_e (λ z. d (sym e ∙ z)) (alone (λ z. d (sym e ∙ z))))
        where
          at_home : Home g K ok m0 img k0 role i j (dat g K x i j) → refs_of g K m (dat g K m i j) ≤ 1
          at_home (old a b one) = one
          at_home (new z a) = omega (arith, ap (refs_of g K m) e, z)

      go : Old g K m role i j (l2 g x (tab g K x i) j) ⊎ Put g K m role i j (l2 g x (tab g K x i) j) → refs_of g K m (dat g K m i j) ≤ 1
      go (inl o) = same (dat_some g K x i j some ∙ ap K.clus o.entry ∙ sym (dat_some g K m i j o.some))
      go (inr q) = q.left d

  -- ---- a discard: e₀ is an entry with no place
  module _ (e₀ : ℕ) (good : K.good2 e₀) (low : e₀ < 256 ^ 8) (bare : K.clus e₀ ≡ 0) (some : tab g K x i ≢ 0) (alone : refs_of g K x (tab g K x i) ≤ 1)
      (one : dat g K x i j ≢ 0 → refs_of g K x (dat g K x i j) ≤ 1) (fine : Ok g K m0 (apply g.C (entry_store g (tab g K x i) j e₀) s)) where
    pub cleared : Put g K m role i j e₀
    cleared = record { active = act; good = good; own = λ d. absurd (d bare); plain = λ d. absurd (d bare); left = left_of some one; place = inl bare }

    pub alive : (c : ℕ) → dead c → c ≢ 0 → c ≡ K.clus e₀ → c ≡ dat g K x i j
    alive c d z e = absurd (z (e ∙ bare))

    -- of a mark with no place
    pub unmark_call : (d : Dec (tab g K m i ≡ 0))
        → Step g K ok m0 img k0 role role dead dead (before d (entry_store g (tab g K x i) j e₀)) (among d (entry_store g (tab g K x i) j e₀)) [] s (apply g.C (entry_store g (tab g K x i) j e₀) s)
    unmark_call d = entry-step g K ok m0 img k0 role dead r l f s p i j e₀ i_l j_e low some alone cleared alive fine d

    -- of a place: its count falls
    module _ (d : dat g K x i j ≢ 0) where
      abbrev c : ℕ
      c = dat g K x i j

      abbrev s₁ : List ℕ
      s₁ = apply g.C (entry_store g (tab g K x i) j e₀) s

      c_n : c < g.N
      c_n = dat_in g K ok x p.fine.sound i j i_l j_e

      pub discard_call : (y : Dec (tab g K m i ≡ 0))
          → Step g K ok m0 img k0 role role dead (λ a. dead a ⊎ (a ≡ c)) (before y (entry_store g (tab g K x i) j e₀) ++ []) (among y (entry_store g (tab g K x i) j e₀) ++ []) ([] ++ (count_store g m c (cnt g x c - 1) ∷ []))
          s (apply g.C (count_store g m c (cnt g x c - 1)) s₁)
      discard_call y =
          compose g K ok m0 img k0 role role role dead dead (λ a. dead a ⊎ (a ≡ c)) (before y (entry_store g (tab g K x i) j e₀)) (among y (entry_store g (tab g K x i) j e₀)) [] [] [] (count_store g m c (cnt g x c - 1) ∷ []) s s₁
          (apply g.C (count_store g m c (cnt g x c - 1)) s₁) p.fine.len (unmark_call y)
          (fall_step g K ok m0 img k0 role dead (r ++ before y (entry_store g (tab g K x i) j e₀)) (l ++ among y (entry_store g (tab g K x i) j e₀)) (f ++ []) s₁
          (extend g K ok m0 img k0 role role dead dead r l f (before y (entry_store g (tab g K x i) j e₀)) (among y (entry_store g (tab g K x i) j e₀)) [] s s₁ p (unmark_call y))
          c (cnt g x c - 1) c_n (omega (arith, cnt_small g K ok m0 x c))
          (omega (arith, entry-moved g K ok m0 img k0 role dead r l f s p i j e₀ i_l j_e low some alone cleared alive fine c, hit_self c d, ap (hit c) bare, hit_zero c, one d, p.fine.sound.inv.covered c c_n)))
