-- Nothing of a batch is stored while an autoclear bit stands. Assumes nothing.
use Prim.Native.Nat.{ℕ, suc}
use native.Mathlib.Omega.{arith}
use mathlib.Core.Path.{◌≡◌, refl, sym, ap, ◌∙◌}
use mathlib.Core.Logic.{inl, inr, ◌≢◌}
use mathlib.Core.Bool.{Bool, true, false}
use mathlib.Core.List.{List, [], ◌∷◌, ◌++◌}
use lib.ListN.{length}
use borrow.Author.Tests.{ne_eqb}
use lib.Dec.{eqb}
use Rattle.choice.proofs.Tests.{if_no}
use Rattle.cuts.proofs.Run.{Store}
use Rattle.units.specs.Units.{UnitStore}
use Rattle.units.specs.Units.{apply as apply_u, apply_all as apply_all_u}
use Rattle.units.specs.Plan.{plan_units}
use Rattle.units.proofs.Laws.{length-apply_all}
use Rattle.qcow2_spec.specs.Header.{autoclear, cluster_size}
use Rattle.qcow2_spec.specs.Store.{clear_units}
use Rattle.qcow2_spec.specs.Disk.{Request, plan_of}
use Rattle.qcow2_spec.specs.Flush.{picked}
use Rattle.qcow2_spec.specs.Steps.{Extent}
use Rattle.qcow2_spec.specs.Series.{ClearedFirst, Bytes}
use Rattle.qcow2_spec.proofs.Geo.{geo, code}
use Rattle.qcow2_spec.proofs.Flush.{picked_nil, Held}
use Rattle.qcow2_spec.proofs.Plans.{clear, clear_aside, zeroed}
use Rattle.qcow2_spec.proofs.Units.{Like, like_append, like_picked}
use Rattle.qcow2_spec.proofs.Series.{Good, fs, own}
use Rattle.qcow2_batches.specs.Batch.{call_phase, ready_after, ran, memory, batch_phase, batch_phases}
use Rattle.qcow2_batches.proofs.Sorted.{call_phase-none}
use Rattle.qcow2_batches.proofs.Firsts.{Firsts, uncleared, cleared}
use Rattle.qcow2_batches.proofs.State.{State}

-- ---- while a bit stands, a call that stores has a clearing unit
list_none : (s : List ℕ) (ready : List Extent) (us : List UnitStore) → autoclear s ≢ 0 → call_phase 0 s ready us ≡ [] → us ≡ []
unfolding call_phase clear_units
list_none s ready [] n e = refl
list_none s ready (u ∷ us) n e = absurd (some (rw (if_no (eqb (autoclear s) 0) [] (clear ∷ []) (ne_eqb _ _ n)) at e))
  where
    some : u ∷ [] ≡ [] → ⊥
    some q = let z : ◌≡◌ {A = ℕ} 1 0 = ap (λ (vs : List UnitStore). length vs) q in omega arith

append_none : {A : Type 0} (xs ys : List A) → xs ++ ys ≡ [] → (xs ≡ []) × (ys ≡ [])
append_none [] ys e = (refl, e)
append_none (x ∷ xs) ys e = absurd (let z : ◌≡◌ {A = ℕ} (suc (length (xs ++ ys))) 0 = ap (λ (vs : List _). length vs) e in omega arith)

no_units : (backing s : List ℕ) (r : Request) → plan_units (plan_of backing s r) ≡ [] → ran backing s r ≡ s
unfolding ran apply_all_u
no_units backing s r z = rw z refl

-- with none, nothing is stored
all_none : (backing s : List ℕ) (ready : List Extent) (rs : List Request) → autoclear s ≢ 0 → batch_phase 0 backing s ready rs ≡ [] → (p : ℕ) → batch_phase (suc p) backing s ready rs ≡ []
unfolding batch_phase
all_none backing s ready [] n e p = refl
all_none backing s ready (r ∷ rs) n e p =
    let us : List UnitStore = plan_units (plan_of backing s r) in
    let parts = append_none (call_phase 0 s ready us) (batch_phase 0 backing (ran backing s r) (ready_after s ready us) rs) e in
    let z : us ≡ [] = list_none s ready us n parts.0 in
    let same : ran backing s r ≡ s = no_units backing s r z in
    rw (ap (λ (vs : List UnitStore). call_phase (suc p) s ready vs) z ∙ call_phase-none (suc p) s ready) (all_none backing (ran backing s r) (ready_after s ready us) rs (rw same n) parts.1 p)

module _ (backing start img : List ℕ) (all : List Request) (bb : Bytes backing) (k0 : Good backing start img) where
  -- the field of t is cleared
  abbrev Zero : List ℕ → Type 0
  Zero t = (y : List ℕ) × (t ≡ apply_u clear y) × (length y ≡ length img)

  zero_is : (t : List ℕ) → Zero t → autoclear t ≡ 0
  zero_is t z = ap autoclear z.1 ∙ zeroed backing img (fs backing start img k0) bb (own backing start img k0) z.0 z.2

  zero_more : {us : List UnitStore} {vs : List Store} → Like (cluster_size img) us vs → (t : List ℕ) → Zero t → Zero (apply_all_u us t)
  zero_more {us} h t z = (apply_all_u us z.0, ap (λ (y : List ℕ). apply_all_u us y) z.1 ∙ clear_aside img (fs backing start img k0) h z.0, length-apply_all us z.0 ∙ z.2)

  abbrev P : ℕ → List UnitStore
  P n = batch_phase n backing img [] all

  -- after the clearing unit
  after : {vs : List Store} {ws : List Store} {us : List UnitStore} {xs : List Store} → Like (cluster_size img) us xs → Like (cluster_size img) (P 2) vs → Like (cluster_size img) (P 3) ws → (t : List ℕ) → Zero t
      → Held (ClearedFirst img) (λ (u : List ℕ). Unit {0}) (us ∷ P 2 ∷ P 3 ∷ []) t
  unfolding Held ClearedFirst
  after {us = us} h h₂ h₃ t z =
      let z₁ = zero_more h t z in
      let z₂ = zero_more h₂ (apply_all_u us t) z₁ in (
        (λ cs n. inr (zero_is _ (zero_more (like_picked h cs) t z))),
        (
          (λ cs n. inr (zero_is _ (zero_more (like_picked h₂ cs) (apply_all_u us t) z₁))),
          ((λ cs n. inr (zero_is _ (zero_more (like_picked h₃ cs) (apply_all_u (P 2) (apply_all_u us t)) z₂))), tt),
        ),
      )

  -- with no clearing unit
  never : (p0 p1 p2 p3 : List UnitStore) → p0 ≡ [] → (autoclear img ≢ 0 → (p1 ≡ []) × (p2 ≡ []) × (p3 ≡ [])) → Held (ClearedFirst img) (λ (u : List ℕ). Unit {0}) (p0 ∷ p1 ∷ p2 ∷ p3 ∷ []) img
  unfolding Held ClearedFirst apply_all_u
  never p0 p1 p2 p3 e h = (
    (λ cs n. inl (rw (e, picked_nil cs) refl)),
    ((λ cs n. inl (rw (e, (h n).0, picked_nil cs) refl)), ((λ cs n. inl (rw (e, (h n).0, (h n).1, picked_nil cs) refl)), ((λ cs n. inl (rw (e, (h n).0, (h n).1, (h n).2, picked_nil cs) refl)), tt))),
  )

  clear_cut : (cs : List Bool) → ClearedFirst img (apply_all_u (picked cs (clear ∷ [])) img)
  unfolding ClearedFirst apply_all_u picked
  clear_cut [] n = inl refl
  clear_cut (false ∷ cs) n = rw (picked_nil cs) (inl refl)
  clear_cut (true ∷ cs) n = rw (picked_nil cs) (inr (zero_is (apply_u clear img) (img, refl, refl)))

  by_firsts : {vs ws : List Store} → Like (cluster_size img) (P 2) vs → Like (cluster_size img) (P 3) ws → {q p : List UnitStore} {r : List Store} → Firsts (cluster_size img) q p r → q ≡ P 0 → p ≡ P 1
      → Held (ClearedFirst img) (λ (u : List ℕ). Unit {0}) (q ∷ p ∷ P 2 ∷ P 3 ∷ []) img
  unfolding Held apply_all_u
  by_firsts h₂ h₃ (uncleared h) e e' = never [] _ (P 2) (P 3) refl (λ n. let z = all_none backing img [] all n (sym e) in (e' ∙ z 0, z 1, z 2))
  by_firsts h₂ h₃ (cleared h k) e e' = (clear_cut, after (like_append h k) h₂ h₃ (apply_u clear img) (img, refl, refl))

  pub clears-first : State backing img all (geo img) (code img) (memory backing img all) (P 0) (P 1) (P 2) (P 3) → Held (ClearedFirst img) (λ (u : List ℕ). Unit {0}) (batch_phases backing img all) img
  unfolding batch_phases
  clears-first st = by_firsts st.seconds st.thirds st.firsts refl refl
