-- A call of a batch: data go into a new cluster, below a new table. Assumes nothing.
use mathlib.Core.Path.{◌≡◌, sym, ap, ◌∙◌}
use mathlib.Core.Logic.{◌⊎◌, inl, inr, ◌≢◌}
use mathlib.Core.List.{List, [], ◌∷◌, ◌++◌}
use Prim.Native.Nat.{ℕ, ◌+◌, ◌*◌, ◌≤◌, ◌<◌}
use native.Mathlib.Decide.{ℕ_discrete}
use native.Mathlib.Omega.{arith}
use lib.ListN.{length}
use Rattle.cuts.proofs.Cell.{enc, length-enc, small-enc, Small, Stored, mem}
use Rattle.cuts.proofs.Meta.{Geo, GeoOk, Codec, cnt, row, col, Has, l2, tab, refs_of}
use Rattle.cuts.proofs.Step.{link_tab_new}
use Rattle.cuts.proofs.Run.{Store, apply, fill, Each, none, also, each_append}
use Rattle.cuts.proofs.Call.{Ok, count_store, entry_store, link_store, one-fits}
use Rattle.cuts.proofs.Write.{small-replicate}
use Rattle.batches.proofs.Mixture.{Use, table, datum, upper, used_table, used_datum}
use Rattle.batches.proofs.Stores.{Laid, laid_link}
use Rattle.batches.proofs.Planned.{Planned, Settled}
use Rattle.batches.proofs.Links.{inner_keep, inner_cnt, less}
use Rattle.batches.proofs.Tables.{Z, role₁, s₁, role₂, s₂, s₃, l_z, old, one, two, plan₁, zc₁, free_t, free_t₀, plan₂, free_t₂, free_c₀, plan₃, stored₃, entry_c, entry-0, t0, mc, filled, alive, used_t, only, rest, z₃, was, table_call}
use Rattle.batches.proofs.Known.{Known, fresh-apart, knows_still, knows_link}
use Rattle.batches.proofs.Knows.{knows_allot}
use Rattle.batches.proofs.Unseen.{Hidden, counted, unnamed}
use Rattle.batches.proofs.Shown.{joins}
use Rattle.batches.proofs.Batch.{Call, hidden-fill}

module _ (g : Geo) (K : Codec) (ok : GeoOk g K) (m0 : ℕ → ℕ → ℕ) (img : List ℕ) (k0 : Ok g K m0 img) (past : (ℕ → ℕ → ℕ) → Type 0) (role : ℕ → Use) (dead : ℕ → Type 0)
    (r l f : List Store) (s : List ℕ) (p : Planned g K ok m0 img k0 role dead r l f s) (settled : Settled g K ok m0 img k0 role s)
    (i j : ℕ) (i_l : i < g.L) (j_e : j < g.E) (act : i < g.M) (hi : Has g i) (z : tab g K (mem g.C s) i ≡ 0)
    (t c : ℕ) (A : List ℕ) (t_n : t < g.N) (c_n : c < g.N) (tc : t ≢ c) (zt : cnt g (mem g.C s) t ≡ 0) (zc : cnt g (mem g.C s) c ≡ 0)
    (st : dead t → ⊥) (sc : dead c → ⊥) (l_a : 0 + length A ≤ g.C) (sm_a : Small A)
    (fine : Ok g K m0 (apply g.C (link_store g i (K.mk t)) (s₃ g K ok m0 img k0 role dead r l f s p settled i j i_l j_e act hi z t c A t_n c_n tc zt zc st sc l_a sm_a))) where
  abbrev y₀ : ℕ → ℕ → ℕ
  y₀ = mem g.C s

  abbrev y₁ : ℕ → ℕ → ℕ
  y₁ = mem g.C (s₁ g K ok m0 img k0 role dead r l f s p settled i j i_l j_e act hi z t c A t_n c_n tc zt zc st sc l_a sm_a)

  abbrev y₂ : ℕ → ℕ → ℕ
  y₂ = mem g.C (s₂ g K ok m0 img k0 role dead r l f s p settled i j i_l j_e act hi z t c A t_n c_n tc zt zc st sc l_a sm_a)

  abbrev y₃ : ℕ → ℕ → ℕ
  y₃ = mem g.C (s₃ g K ok m0 img k0 role dead r l f s p settled i j i_l j_e act hi z t c A t_n c_n tc zt zc st sc l_a sm_a)

  abbrev y₄ : ℕ → ℕ → ℕ
  y₄ = mem g.C (apply g.C (link_store g i (K.mk t)) (s₃ g K ok m0 img k0 role dead r l f s p settled i j i_l j_e act hi z t c A t_n c_n tc zt zc st sc l_a sm_a))

  -- neither cluster is a known place
  not_t : (a b w : ℕ) → a < g.L → b < g.E → Known g K past y₀ dead a b w → K.flag w ≡ 0 → K.clus w ≢ 0 → K.clus w ≢ t
  not_t a b w a_l b_e = fresh-apart g K ok past y₀ y₀ p.fine.sound dead t (free_t g K ok m0 img k0 role dead r l f s p settled i j i_l j_e act hi z t c A t_n c_n tc zt zc st sc l_a sm_a) zt st a b w a_l b_e

  not_c : (a b w : ℕ) → a < g.L → b < g.E → Known g K past y₀ dead a b w → K.flag w ≡ 0 → K.clus w ≢ 0 → K.clus w ≢ c
  not_c a b w a_l b_e = fresh-apart g K ok past y₀ y₀ p.fine.sound dead c (omega (arith, zc, p.fine.sound.inv.covered c c_n)) zc sc a b w a_l b_e

  knows₁ : (a b w : ℕ) → a < g.L → b < g.E → K.clus w < g.N → Known g K past y₀ dead a b w → Known g K past y₁ dead a b w
  knows₁ = knows_allot g K ok m0 img k0 role dead r l f s p past t (table i) (used_table i) (one g K ok m0 img k0 role dead r l f s p settled i j i_l j_e act hi z t c A t_n c_n tc zt zc st sc l_a sm_a) (Z g K ok m0 img k0 role dead r l f s p settled i j i_l j_e act hi z t c A t_n c_n tc zt zc st sc l_a sm_a) t_n zt st (l_z g K ok m0 img k0 role dead r l f s p settled i j i_l j_e act hi z t c A t_n c_n tc zt zc st sc l_a sm_a) (small-replicate g.C)

  knows₂ : (a b w : ℕ) → a < g.L → b < g.E → K.clus w < g.N → Known g K past y₁ dead a b w → Known g K past y₂ dead a b w
  knows₂ = knows_allot g K ok m0 img k0 (role₁ g K ok m0 img k0 role dead r l f s p settled i j i_l j_e act hi z t c A t_n c_n tc zt zc st sc l_a sm_a) dead _ _ _ (s₁ g K ok m0 img k0 role dead r l f s p settled i j i_l j_e act hi z t c A t_n c_n tc zt zc st sc l_a sm_a) (plan₁ g K ok m0 img k0 role dead r l f s p settled i j i_l j_e act hi z t c A t_n c_n tc zt zc st sc l_a sm_a) past c (datum i j) (used_datum i j) (two g K ok m0 img k0 role dead r l f s p settled i j i_l j_e act hi z t c A t_n c_n tc zt zc st sc l_a sm_a) A c_n (zc₁ g K ok m0 img k0 role dead r l f s p settled i j i_l j_e act hi z t c A t_n c_n tc zt zc st sc l_a sm_a) sc l_a sm_a

  knows₃ : (a b w : ℕ) → a < g.L → b < g.E → K.clus w < g.N → Known g K past y₀ dead a b w → Known g K past y₃ dead a b w
  knows₃ a b w a_l b_e w_n k =
      knows_still g K ok past y₂ y₃ (plan₂ g K ok m0 img k0 role dead r l f s p settled i j i_l j_e act hi z t c A t_n c_n tc zt zc st sc l_a sm_a).fine.sound dead
      (inner_keep g K ok m0 img k0 (role₂ g K ok m0 img k0 role dead r l f s p settled i j i_l j_e act hi z t c A t_n c_n tc zt zc st sc l_a sm_a) dead _ _ _ (s₂ g K ok m0 img k0 role dead r l f s p settled i j i_l j_e act hi z t c A t_n c_n tc zt zc st sc l_a sm_a) (plan₂ g K ok m0 img k0 role dead r l f s p settled i j i_l j_e act hi z t c A t_n c_n tc zt zc st sc l_a sm_a) t j (K.mk c) t_n j_e (free_t₀ g K ok m0 img k0 role dead r l f s p settled i j i_l j_e act hi z t c A t_n c_n tc zt zc st sc l_a sm_a) (free_t₂ g K ok m0 img k0 role dead r l f s p settled i j i_l j_e act hi z t c A t_n c_n tc zt zc st sc l_a sm_a))
      (inner_cnt g K ok m0 img k0 (role₂ g K ok m0 img k0 role dead r l f s p settled i j i_l j_e act hi z t c A t_n c_n tc zt zc st sc l_a sm_a) dead _ _ _ (s₂ g K ok m0 img k0 role dead r l f s p settled i j i_l j_e act hi z t c A t_n c_n tc zt zc st sc l_a sm_a) (plan₂ g K ok m0 img k0 role dead r l f s p settled i j i_l j_e act hi z t c A t_n c_n tc zt zc st sc l_a sm_a) t j (K.mk c) t_n j_e (free_t₀ g K ok m0 img k0 role dead r l f s p settled i j i_l j_e act hi z t c A t_n c_n tc zt zc st sc l_a sm_a) (free_t₂ g K ok m0 img k0 role dead r l f s p settled i j i_l j_e act hi z t c A t_n c_n tc zt zc st sc l_a sm_a))
      a b w a_l b_e w_n (λ y d o h. (stored₃ g K ok m0 img k0 role dead r l f s p settled i j i_l j_e act hi z t c A t_n c_n tc zt zc st sc l_a sm_a).cluster (K.clus w) o h (not_t a b w a_l b_e k y d)) (knows₂ a b w a_l b_e w_n (knows₁ a b w a_l b_e w_n k))

  -- ---- the link
  lay : Laid g (s₃ g K ok m0 img k0 role dead r l f s p settled i j i_l j_e act hi z t c A t_n c_n tc zt zc st sc l_a sm_a) (row g i) (8 * col g i) (K.mk t)
  lay = laid_link g K ok m0 _ (plan₃ g K ok m0 img k0 role dead r l f s p settled i j i_l j_e act hi z t c A t_n c_n tc zt zc st sc l_a sm_a).fine i (K.mk t) i_l hi

  sm : (k o : ℕ) → y₄ k o < 256
  unfolding apply link_store
  sm = lay.small

  stored₄ : Stored g.C y₃ y₄ (row g i) (8 * col g i) (enc 8 (K.mk t))
  unfolding apply link_store
  stored₄ = lay.stored

  -- what nothing names is not named by the new table either
  unnamed_still : (w : ℕ) → w ≢ t → w ≢ c → w ≢ 0 → refs_of g K y₃ w ≡ 0 → refs_of g K y₄ w ≡ 0
  unfolding apply link_store
  unnamed_still w wt wc w0 e =
      omega (
        arith,
        e,
        less g K ok m0 img k0 (role₂ g K ok m0 img k0 role dead r l f s p settled i j i_l j_e act hi z t c A t_n c_n tc zt zc st sc l_a sm_a) dead _ _ _ (s₃ g K ok m0 img k0 role dead r l f s p settled i j i_l j_e act hi z t c A t_n c_n tc zt zc st sc l_a sm_a) (plan₃ g K ok m0 img k0 role dead r l f s p settled i j i_l j_e act hi z t c A t_n c_n tc zt zc st sc l_a sm_a) i t i_l hi act t_n (t0 g K ok m0 img k0 role dead r l f s p settled i j i_l j_e act hi z t c A t_n c_n tc zt zc st sc l_a sm_a) (z₃ g K ok m0 img k0 role dead r l f s p settled i j i_l j_e act hi z t c A t_n c_n tc zt zc st sc l_a sm_a fine) (old g K ok m0 img k0 role dead r l f s p settled i j i_l j_e act hi z t c A t_n c_n tc zt zc st sc l_a sm_a) (free_t₀ g K ok m0 img k0 role dead r l f s p settled i j i_l j_e act hi z t c A t_n c_n tc zt zc st sc l_a sm_a) (used_t g K ok m0 img k0 role dead r l f s p settled i j i_l j_e act hi z t c A t_n c_n tc zt zc st sc l_a sm_a) (filled g K ok m0 img k0 role dead r l f s p settled i j i_l j_e act hi z t c A t_n c_n tc zt zc st sc l_a sm_a) (alive g K ok m0 img k0 role dead r l f s p settled i j i_l j_e act hi z t c A t_n c_n tc zt zc st sc l_a sm_a) (only g K ok m0 img k0 role dead r l f s p settled i j i_l j_e act hi z t c A t_n c_n tc zt zc st sc l_a sm_a) (rest g K ok m0 img k0 role dead r l f s p settled i j i_l j_e act hi z t c A t_n c_n tc zt zc st sc l_a sm_a) fine w
            (wt, λ b n y h. go b n y h (ℕ_discrete b j)),
      )
    where
      go : (b : ℕ) → b < g.E → w ≢ 0 → w ≡ K.clus (l2 g (mem g.C (s₃ g K ok m0 img k0 role dead r l f s p settled i j i_l j_e act hi z t c A t_n c_n tc zt zc st sc l_a sm_a)) t b) → Dec (b ≡ j) → ⊥
      go b n y h (yes q) = wc (h ∙ ap (λ (k : ℕ). K.clus (l2 g (mem g.C (s₃ g K ok m0 img k0 role dead r l f s p settled i j i_l j_e act hi z t c A t_n c_n tc zt zc st sc l_a sm_a)) t k)) q ∙ ap K.clus (entry_c g K ok m0 img k0 role dead r l f s p settled i j i_l j_e act hi z t c A t_n c_n tc zt zc st sc l_a sm_a) ∙ mc g K ok m0 img k0 role dead r l f s p settled i j i_l j_e act hi z t c A t_n c_n tc zt zc st sc l_a sm_a)
      go b n y h (no q) = y (h ∙ ap K.clus (entry-0 g K ok m0 img k0 role dead r l f s p settled i j i_l j_e act hi z t c A t_n c_n tc zt zc st sc l_a sm_a b n q) ∙ ok.laws.zero_clus)

  knows₄ : (a b w : ℕ) → a < g.L → b < g.E → K.clus w < g.N → Known g K past y₀ dead a b w → Known g K past y₄ dead a b w
  knows₄ a b w a_l b_e w_n k =
      knows_link g K ok past y₃ y₄ (plan₃ g K ok m0 img k0 role dead r l f s p settled i j i_l j_e act hi z t c A t_n c_n tc zt zc st sc l_a sm_a).fine.sound dead sm i t i_l hi t_n (z₃ g K ok m0 img k0 role dead r l f s p settled i j i_l j_e act hi z t c A t_n c_n tc zt zc st sc l_a sm_a fine) stored₄ a b w a_l b_e w_n (knows₃ a b w a_l b_e w_n k)
      (λ y d e. unnamed_still (K.clus w) (not_t a b w a_l b_e k y d) (not_c a b w a_l b_e k y d) d e)

  pub hidden : Each (Hidden g K ok m0 img) ((((count_store g (mem g.C img) t 1 ∷ []) ++ fill t 0 (Z g K ok m0 img k0 role dead r l f s p settled i j i_l j_e act hi z t c A t_n c_n tc zt zc st sc l_a sm_a)) ++ ((count_store g (mem g.C img) c 1 ∷ []) ++ fill c 0 A)) ++ ((entry_store g t j (K.mk c) ∷ []) ++ []))
  unfolding entry_store
  hidden =
      each_append
      (each_append
      (also (counted t 1 t_n (one-fits g K ok m0) (omega arith) (omega (arith, free_t₀ g K ok m0 img k0 role dead r l f s p settled i j i_l j_e act hi z t c A t_n c_n tc zt zc st sc l_a sm_a))) (hidden-fill g K ok m0 img k0 past t 0 (Z g K ok m0 img k0 role dead r l f s p settled i j i_l j_e act hi z t c A t_n c_n tc zt zc st sc l_a sm_a) t_n (l_z g K ok m0 img k0 role dead r l f s p settled i j i_l j_e act hi z t c A t_n c_n tc zt zc st sc l_a sm_a) (small-replicate g.C) (free_t₀ g K ok m0 img k0 role dead r l f s p settled i j i_l j_e act hi z t c A t_n c_n tc zt zc st sc l_a sm_a)))
      (also (counted c 1 c_n (one-fits g K ok m0) (omega arith) (omega (arith, free_c₀ g K ok m0 img k0 role dead r l f s p settled i j i_l j_e act hi z t c A t_n c_n tc zt zc st sc l_a sm_a))) (hidden-fill g K ok m0 img k0 past c 0 A c_n l_a sm_a (free_c₀ g K ok m0 img k0 role dead r l f s p settled i j i_l j_e act hi z t c A t_n c_n tc zt zc st sc l_a sm_a))))
      (also (unnamed t (8 * j) (enc 8 (K.mk c)) t_n (omega (arith, ok.c8, length-enc 8 (K.mk c))) (small-enc 8 (K.mk c)) (free_t₀ g K ok m0 img k0 role dead r l f s p settled i j i_l j_e act hi z t c A t_n c_n tc zt zc st sc l_a sm_a)) none)

  pub new_table : Call g K ok m0 img k0 past role (role₂ g K ok m0 img k0 role dead r l f s p settled i j i_l j_e act hi z t c A t_n c_n tc zt zc st sc l_a sm_a) dead dead
      ((((count_store g (mem g.C img) t 1 ∷ []) ++ fill t 0 (Z g K ok m0 img k0 role dead r l f s p settled i j i_l j_e act hi z t c A t_n c_n tc zt zc st sc l_a sm_a)) ++ ((count_store g (mem g.C img) c 1 ∷ []) ++ fill c 0 A)) ++ ((entry_store g t j (K.mk c) ∷ []) ++ []))
      ((([] ++ []) ++ ([] ++ [])) ++ ([] ++ (link_store g i (K.mk t) ∷ []))) ((([] ++ []) ++ ([] ++ [])) ++ ([] ++ [])) s (apply g.C (link_store g i (K.mk t)) (s₃ g K ok m0 img k0 role dead r l f s p settled i j i_l j_e act hi z t c A t_n c_n tc zt zc st sc l_a sm_a))
  new_table =
      record {
        step = table_call g K ok m0 img k0 role dead r l f s p settled i j i_l j_e act hi z t c A t_n c_n tc zt zc st sc l_a sm_a fine;
        knows = knows₄;
        written = also (joins i t i_l hi t_n (t0 g K ok m0 img k0 role dead r l f s p settled i j i_l j_e act hi z t c A t_n c_n tc zt zc st sc l_a sm_a) (old g K ok m0 img k0 role dead r l f s p settled i j i_l j_e act hi z t c A t_n c_n tc zt zc st sc l_a sm_a) act (free_t₀ g K ok m0 img k0 role dead r l f s p settled i j i_l j_e act hi z t c A t_n c_n tc zt zc st sc l_a sm_a) (used_t g K ok m0 img k0 role dead r l f s p settled i j i_l j_e act hi z t c A t_n c_n tc zt zc st sc l_a sm_a)) none;
        early = inl hidden;
        linked = λ u a n e. go u a n e (was g K ok m0 img k0 role dead r l f s p settled i j i_l j_e act hi z t c A t_n c_n tc zt zc st sc l_a sm_a u a e (ℕ_discrete u c) (ℕ_discrete u t));
      }
    where
      go : (u a : ℕ) → u < g.N → role₂ g K ok m0 img k0 role dead r l f s p settled i j i_l j_e act hi z t c A t_n c_n tc zt zc st sc l_a sm_a u ≡ table a → (u ≡ t) ⊎ (role u ≡ table a) → (role u ≡ table a) ⊎ (tab g K y₄ a ≡ u)
      go u a n e (inr y) = inl y
      go u a n e (inl y) =
          let h : a ≡ i = ap upper (sym e ∙ ap (role₂ g K ok m0 img k0 role dead r l f s p settled i j i_l j_e act hi z t c A t_n c_n tc zt zc st sc l_a sm_a) y ∙ used_t g K ok m0 img k0 role dead r l f s p settled i j i_l j_e act hi z t c A t_n c_n tc zt zc st sc l_a sm_a) in
          inr (ap (tab g K y₄) h ∙ link_tab_new g K ok y₃ (plan₃ g K ok m0 img k0 role dead r l f s p settled i j i_l j_e act hi z t c A t_n c_n tc zt zc st sc l_a sm_a).fine.sound y₄ sm i t i_l hi t_n stored₄ ∙ sym y)
