-- A call of a batch: a guest cluster is discarded. Assumes nothing.
use mathlib.Core.Path.{◌≡◌, ap, ◌∙◌}
use mathlib.Core.Logic.{◌⊎◌, inl, ◌≢◌}
use mathlib.Core.List.{List, [], ◌∷◌, ◌++◌}
use Prim.Native.Nat.{ℕ, ◌-◌, ◌^◌, ◌≤◌, ◌<◌}
use native.Mathlib.Omega.{arith}
use Rattle.cuts.proofs.Refs.{hit, hit_self, hit_zero}
use Rattle.cuts.proofs.Cell.{mem}
use Rattle.cuts.proofs.Meta.{Geo, GeoOk, Codec, cnt, tab, dat, refs_of}
use Rattle.cuts.proofs.Step.{dat_in}
use Rattle.cuts.proofs.Run.{Store, apply, each_append, none}
use Rattle.cuts.proofs.Call.{Ok, SameGuest, count_store, entry_store, cnt_small}
use Rattle.batches.proofs.Mixture.{Use, Put}
use Rattle.batches.proofs.Planned.{Planned}
use Rattle.batches.proofs.Extend.{extend}
use Rattle.batches.proofs.Steps.{before, among, entry-moved, set-count}
use Rattle.batches.proofs.Discards.{cleared, alive, unmark_call, discard_call}
use Rattle.batches.proofs.Known.{Known}
use Rattle.batches.proofs.Knows.{knows_fall}
use Rattle.batches.proofs.Enter.{enter_knows, enter_known, enter_written, enter_early}
use Rattle.batches.proofs.Batch.{Call}

module _ (g : Geo) (K : Codec) (ok : GeoOk g K) (m0 : ℕ → ℕ → ℕ) (img : List ℕ) (k0 : Ok g K m0 img) (past : (ℕ → ℕ → ℕ) → Type 0) (role : ℕ → Use) (dead : ℕ → Type 0)
    (r l f : List Store) (s : List ℕ) (p : Planned g K ok m0 img k0 role dead r l f s) (i j : ℕ) (i_l : i < g.L) (j_e : j < g.E) (act : i < g.M)
    (e₀ : ℕ) (good : K.good2 e₀) (low : e₀ < 256 ^ 8) (bare : K.clus e₀ ≡ 0) (some : tab g K (mem g.C s) i ≢ 0) (alone : refs_of g K (mem g.C s) (tab g K (mem g.C s) i) ≤ 1)
    (one : dat g K (mem g.C s) i j ≢ 0 → refs_of g K (mem g.C s) (dat g K (mem g.C s) i j) ≤ 1)
    (fine : Ok g K m0 (apply g.C (entry_store g (tab g K (mem g.C s) i) j e₀) s)) (now : past (mem g.C (apply g.C (entry_store g (tab g K (mem g.C s) i) j e₀) s))) where
  abbrev m : ℕ → ℕ → ℕ
  m = mem g.C img

  abbrev x : ℕ → ℕ → ℕ
  x = mem g.C s

  abbrev s₁ : List ℕ
  s₁ = apply g.C (entry_store g (tab g K x i) j e₀) s

  abbrev u : Store
  u = entry_store g (tab g K x i) j e₀

  value : Put g K m role i j e₀
  value = cleared g K ok m0 img k0 role dead r l f s p i j i_l j_e act e₀ good low bare some alone one fine

  knows₁ : (a b v : ℕ) → a < g.L → b < g.E → K.clus v < g.N → Known g K past x dead a b v → Known g K past (mem g.C s₁) dead a b v
  knows₁ a b v a_l b_e v_n k =
      enter_knows g K ok m0 img k0 past role dead r l f s p i j e₀ i_l j_e low some alone value (λ d. absurd (d bare)) one a b v a_l b_e v_n k (λ y d e. absurd (d (e ∙ bare)))

  known₁ : Known g K past (mem g.C s₁) dead i j e₀
  known₁ = enter_known g K ok m0 img k0 past role dead r l f s p i j e₀ i_l j_e low some alone value (λ d. absurd (d bare)) one now

  -- of a mark with no place
  pub unmark : (y : Dec (tab g K m i ≡ 0)) → Call g K ok m0 img k0 past role role dead dead (before y u) (among y u) [] s s₁
  unmark y =
      record {
        step = unmark_call g K ok m0 img k0 role dead r l f s p i j i_l j_e act e₀ good low bare some alone one fine y;
        knows = knows₁;
        written = enter_written g K ok m0 img k0 past role dead r l f s p i j e₀ i_l j_e low some alone value (λ d. absurd (d bare)) one (Known g K past (mem g.C s₁) dead) known₁ y;
        early = inl (enter_early g K ok m0 img k0 past role dead r l f s p i j e₀ i_l j_e low some alone value (λ d. absurd (d bare)) one y);
        linked = λ t a n e. inl e;
      }

  -- of a place
  module _ (d : dat g K x i j ≢ 0) (y : Dec (tab g K m i ≡ 0)) where
    abbrev c : ℕ
    c = dat g K x i j

    abbrev v₁ : ℕ
    v₁ = cnt g x c - 1

    abbrev s₂ : List ℕ
    s₂ = apply g.C (count_store g m c v₁) s₁

    c_n : c < g.N
    c_n = dat_in g K ok x p.fine.sound i j i_l j_e

    plan₁ : Planned g K ok m0 img k0 role dead (r ++ before y u) (l ++ among y u) (f ++ []) s₁
    plan₁ = extend g K ok m0 img k0 role role dead dead r l f (before y u) (among y u) [] s s₁ p (unmark_call g K ok m0 img k0 role dead r l f s p i j i_l j_e act e₀ good low bare some alone one fine y)

    covers : refs_of g K (mem g.C s₁) c ≤ v₁
    covers =
        omega (
          arith,
          entry-moved g K ok m0 img k0 role dead r l f s p i j e₀ i_l j_e low some alone value
              (alive g K ok m0 img k0 role dead r l f s p i j i_l j_e act e₀ good low bare some alone one fine) fine c,
          hit_self c d,
          ap (hit c) bare,
          hit_zero c,
          one d,
          p.fine.sound.inv.covered c c_n,
        )

    -- the guest does not see the count
    pub silent : SameGuest g K s₁ s₂
    unfolding SameGuest
    silent = (set-count g K ok m0 img k0 role dead _ _ _ s₁ plan₁ c v₁ c_n (omega (arith, cnt_small g K ok m0 x c)) covers).reads

    knows₂ : (a b w : ℕ) → a < g.L → b < g.E → K.clus w < g.N → Known g K past (mem g.C s₁) dead a b w → Known g K past (mem g.C s₂) (λ n. dead n ⊎ (n ≡ c)) a b w
    knows₂ = knows_fall g K ok m0 img k0 role dead _ _ _ s₁ plan₁ past c v₁ c_n (omega (arith, cnt_small g K ok m0 x c)) covers

    pub discard : Call g K ok m0 img k0 past role role dead (λ n. dead n ⊎ (n ≡ c)) (before y u ++ []) (among y u ++ []) ([] ++ (count_store g m c v₁ ∷ [])) s s₂
    discard =
        record {
          step = discard_call g K ok m0 img k0 role dead r l f s p i j i_l j_e act e₀ good low bare some alone one fine d y;
          knows = λ a b v a_l b_e v_n k. knows₂ a b v a_l b_e v_n (knows₁ a b v a_l b_e v_n k);
          written = each_append
              (enter_written g K ok m0 img k0 past role dead r l f s p i j e₀ i_l j_e low some alone value (λ z. absurd (z bare)) one (Known g K past (mem g.C s₂) (λ n. dead n ⊎ (n ≡ c)))
              (knows₂ i j e₀ i_l j_e (ok.laws.in2 e₀ good) known₁) y) none;
          early = inl (each_append (enter_early g K ok m0 img k0 past role dead r l f s p i j e₀ i_l j_e low some alone value (λ z. absurd (z bare)) one y) none);
          linked = λ t a n e. inl e;
        }
