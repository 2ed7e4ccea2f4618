-- A repair's list: what holds after every cut of it. Assumes nothing.
use mathlib.Core.Path.{◌≡◌, refl, sym, ◌∙◌, subst}
use mathlib.Core.Logic.{◌≢◌}
use mathlib.Core.List.{List, [], ◌∷◌, ◌++◌}
use Prim.Native.Nat.{ℕ, zero, suc, ◌+◌, ◌^◌, ◌≤◌, ◌<◌}
use native.Mathlib.Nat.{zero-add, not-suc-le-zero, le_refl, add-zero}
use native.Mathlib.Decide.{ℕ_discrete}
use native.Mathlib.Omega.{arith}
use Rattle.cuts.proofs.Cell.{mem}
use Rattle.cuts.proofs.Meta.{Geo, GeoOk, Codec, cnt, refs_of}
use Rattle.cuts.proofs.Run.{Store, apply, apply_all, apply_append, Each, none, also, each_append, kept, Epoch}
use Rattle.cuts.proofs.Call.{Ok, count_store, SameGuest, cnt_small}
use Rattle.cuts.proofs.Write.{Still, still_start, still_count, still_refs, Silent, silent_count}

-- the unit, unless the two figures are the same
unfoldable pub unless : {A : Type 0} → Dec A → Store → List Store
unless (yes e) u = []
unless (no d) u = u ∷ []

module _ (g : Geo) (K : Codec) where
  -- n clusters from c on
  unfoldable pub repair_from : (ℕ → ℕ → ℕ) → ℕ → ℕ → List Store
  unfolding unless
  repair_from m zero c = []
  repair_from m (suc n) c = unless (ℕ_discrete (cnt g m c) (refs_of g K m c)) (count_store g m c (refs_of g K m c)) ++ repair_from m n (suc c)

module _ (g : Geo) (K : Codec) (ok : GeoOk g K) (m0 : ℕ → ℕ → ℕ) (img : List ℕ) (k : Ok g K m0 img) where
  abbrev pub MidR : List ℕ → Type 0
  MidR s = Ok g K m0 s × SameGuest g K img s

  -- repaired below c, untouched from c on
  record Upto (c : ℕ) (s : List ℕ) : Type 0 where
    still : Still g K ok m0 img s
    done : (x : ℕ) → x < g.N → x < c → cnt g (mem g.C s) x ≡ refs_of g K (mem g.C img) x
    todo : (x : ℕ) → x < g.N → c ≤ x → cnt g (mem g.C s) x ≡ cnt g (mem g.C img) x

  module _ (c : ℕ) (l : c < g.N) where
    abbrev set : Store
    set = count_store g (mem g.C img) c (refs_of g K (mem g.C img) c)

    below : refs_of g K (mem g.C img) c < 2 ^ g.W
    below = omega (arith, k.sound.inv.covered c l, cnt_small g K ok m0 (mem g.C img) c)

    one_silent : (d : Dec (cnt g (mem g.C img) c ≡ refs_of g K (mem g.C img) c)) → Each (Silent g K ok m0 img) (unless d set)
    unfolding unless
    one_silent (yes e) = none
    one_silent (no d) = also (silent_count g K ok m0 img c _ l below (le_refl _)) none

    one-step : (s : List ℕ) → Upto c s → (d : Dec (cnt g (mem g.C img) c ≡ refs_of g K (mem g.C img) c)) → Upto (suc c) (apply_all g.C (unless d set) s)
    unfolding unless apply_all
    one-step s u (yes e) = record { still = u.still; done = λ x q h. go x q h (ℕ_discrete x c); todo = λ x q h. u.todo x q (omega arith) }
      where
        go : (x : ℕ) → x < g.N → x < suc c → Dec (x ≡ c) → cnt g (mem g.C s) x ≡ refs_of g K (mem g.C img) x
        go x q h (yes f) = u.todo x q (omega arith) ∙ rw f e
        go x q h (no f) = u.done x q (omega arith)
    one-step s u (no d) = record { still = r.0; done = λ x q h. go x q h (ℕ_discrete x c); todo = λ x q h. r.2 x q (omega arith) ∙ u.todo x q (omega arith) }
      where
        s₁ : List ℕ
        s₁ = apply g.C set s

        r : Still g K ok m0 img s₁ × (cnt g (mem g.C s₁) c ≡ refs_of g K (mem g.C img) c) × ((x : ℕ) → x < g.N → x ≢ c → cnt g (mem g.C s₁) x ≡ cnt g (mem g.C s) x)
            × ((a x : ℕ) → x < g.C → refs_of g K (mem g.C img) a ≡ 0 → mem g.C s₁ a x ≡ mem g.C s a x)
        r = still_count g K ok m0 img s u.still c _ l below (le_refl _)

        go : (x : ℕ) → x < g.N → x < suc c → Dec (x ≡ c) → cnt g (mem g.C s₁) x ≡ refs_of g K (mem g.C img) x
        go x q h (yes f) = rw f r.1
        go x q h (no f) = r.2 x q f ∙ u.done x q (omega arith)

  all_silent : (n c : ℕ) → n + c ≡ g.N → Each (Silent g K ok m0 img) (repair_from g K (mem g.C img) n c)
  unfolding repair_from
  all_silent zero c e = none
  all_silent (suc n) c e = each_append (one_silent c (omega arith) (ℕ_discrete _ _)) (all_silent n (suc c) (omega arith))

  steps : (n c : ℕ) → n + c ≡ g.N → (s : List ℕ) → Upto c s → Upto g.N (apply_all g.C (repair_from g K (mem g.C img) n c) s)
  unfolding repair_from apply_all
  steps zero c e s u = subst (λ (y : ℕ). Upto y s) (sym (zero-add c) ∙ e) u
  steps (suc n) c e s u = rw apply_append (steps n (suc c) (omega arith) _ (one-step c (omega arith) s u (ℕ_discrete _ _)))

  -- the counts end as the references
  pub record Repaired (s : List ℕ) : Type 0 where
    pub still : Still g K ok m0 img s
    pub exact : (x : ℕ) → x < g.N → cnt g (mem g.C s) x ≡ refs_of g K (mem g.C s) x

  -- all in one epoch
  pub repair-run : Epoch g.C MidR (repair_from g K (mem g.C img) g.N 0) img Repaired
  repair-run =
      let u : Upto g.N (apply_all g.C (repair_from g K (mem g.C img) g.N 0) img) =
      steps g.N 0 (add-zero g.N) img (record { still = still_start g K ok m0 img k; done = λ x q h. absurd (not-suc-le-zero h); todo = λ x q h. refl }) in (
        (λ cs. let t = kept g.C (Still g K ok m0 img) (all_silent g.N 0 (add-zero g.N)) cs img (still_start g K ok m0 img k) in (t.fine, t.reads)),
        record { still = u.still; exact = λ x q. u.done x q q ∙ sym (still_refs g K ok m0 img _ u.still x) },
      )
