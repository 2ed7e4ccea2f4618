-- A write of a batch to a place under a zero mark. Assumes nothing.
use mathlib.Core.Path.{◌≡◌, sym, ◌∙◌}
use mathlib.Core.Logic.{inl, inr, ◌≢◌}
use mathlib.Core.List.{List, [], ◌++◌}
use Prim.Native.Nat.{ℕ, ◌+◌, ◌≤◌, ◌<◌}
use lib.ListN.{length}
use Rattle.cuts.proofs.Cell.{Small, mem}
use Rattle.cuts.proofs.Meta.{Geo, GeoOk, Codec, tab, dat, refs_of, Keep, keep_tab, keep_dat, keep_refs}
use Rattle.cuts.proofs.Step.{dat_in}
use Rattle.cuts.proofs.Run.{Store, apply, apply_all, fill, apply-fill}
use Rattle.cuts.proofs.Call.{Ok, entry_store}
use Rattle.batches.proofs.Mixture.{Use, Place, Put, put_new_lem}
use Rattle.batches.proofs.Prepared.{data_set}
use Rattle.batches.proofs.Planned.{Planned}
use Rattle.batches.proofs.Extend.{Step, extend, compose}
use Rattle.batches.proofs.Places.{Home, old, new, home, place-step}
use Rattle.batches.proofs.Steps.{before, among, entry-step}
use Rattle.batches.proofs.Discards.{left_of}

module _ (g : Geo) (K : Codec) (ok : GeoOk g K) (m0 : ℕ → ℕ → ℕ) (img : List ℕ) (k0 : Ok g K m0 img) (role : ℕ → Use) (dead : ℕ → Type 0)
    (r l f : List Store) (s : List ℕ) (p : Planned g K ok m0 img k0 role dead r l f s) (i j : ℕ) (i_l : i < g.L) (j_e : j < g.E) (act : i < g.M)
    (A : List ℕ) (l_a : 0 + length A ≤ g.C) (sm_a : Small A) (some : tab g K (mem g.C s) i ≢ 0) (alone : refs_of g K (mem g.C s) (tab g K (mem g.C s) i) ≤ 1)
    (d : dat g K (mem g.C s) i j ≢ 0) (one : refs_of g K (mem g.C s) (dat g K (mem g.C s) i j) ≤ 1)
    (fine : Ok g K m0 (apply g.C (entry_store g (tab g K (mem g.C s) i) j (K.mk (dat g K (mem g.C s) i j))) (apply_all g.C (fill (dat g K (mem g.C s) i j) 0 A) s))) where
  abbrev m : ℕ → ℕ → ℕ
  m = mem g.C img

  abbrev x : ℕ → ℕ → ℕ
  x = mem g.C s

  abbrev c : ℕ
  c = dat g K x i j

  abbrev s₁ : List ℕ
  s₁ = apply_all g.C (fill c 0 A) s

  step₁ : Step g K ok m0 img k0 role role dead dead (fill c 0 A) [] [] s s₁
  step₁ = place-step g K ok m0 img k0 role dead r l f s p i j 0 A i_l j_e l_a sm_a d one

  pub plan₁ : Planned g K ok m0 img k0 role dead (r ++ fill c 0 A) (l ++ []) (f ++ []) s₁
  plan₁ = extend g K ok m0 img k0 role role dead dead r l f (fill c 0 A) [] [] s s₁ p step₁

  pub keep₁ : Keep g K x (mem g.C s₁)
  keep₁ = rw (apply-fill g.C c 0 A s) (data_set g K ok m0 img s p.fine i j 0 A i_l j_e l_a sm_a d one).1

  pub c_n : c < g.N
  c_n = dat_in g K ok x p.fine.sound i j i_l j_e

  pub mc : K.clus (K.mk c) ≡ c
  mc = ok.laws.mk_clus c c_n

  place : Home g K ok m0 img k0 role i j c → Place g K m role i j c
  place (old e y n) = inr (inl e)
  place (new y e) = inr (inr (y, e))

  pub value : Put g K m role i j (K.mk c)
  value = put_new_lem g K ok m role i j c act c_n d (left_of g K ok m0 img k0 role dead r l f s p i j i_l j_e act some (λ y. one)) (place (home g K ok m0 img k0 role x p.mix i j i_l j_e d one))

  same : tab g K (mem g.C s₁) i ≡ tab g K x i
  same = keep_tab g K ok x (mem g.C s₁) keep₁ i i_l

  step₂ : (y : Dec (tab g K m i ≡ 0)) → Step g K ok m0 img k0 role role dead dead (before y (entry_store g (tab g K x i) j (K.mk c))) (among y (entry_store g (tab g K x i) j (K.mk c))) []
      s₁ (apply g.C (entry_store g (tab g K x i) j (K.mk c)) s₁)
  step₂ y =
      rw same at
      (entry-step g K ok m0 img k0 role dead _ _ _ s₁ plan₁ i j (K.mk c) i_l j_e (ok.laws.mk_lt c c_n) (λ z. some (sym same ∙ z))
      (rw (same, keep_refs g K ok x (mem g.C s₁) keep₁ (tab g K x i)) alone) value (λ a b z e. e ∙ mc ∙ sym (keep_dat g K ok x (mem g.C s₁) keep₁ i j i_l j_e)) (rw same fine) y)

  pub marked_call : (y : Dec (tab g K m i ≡ 0))
      → Step g K ok m0 img k0 role role dead dead (fill c 0 A ++ before y (entry_store g (tab g K x i) j (K.mk c))) ([] ++ among y (entry_store g (tab g K x i) j (K.mk c))) ([] ++ [])
      s (apply g.C (entry_store g (tab g K x i) j (K.mk c)) s₁)
  marked_call y = compose g K ok m0 img k0 role role role dead dead dead _ _ _ _ _ _ s s₁ _ p.fine.len step₁ (step₂ y)
