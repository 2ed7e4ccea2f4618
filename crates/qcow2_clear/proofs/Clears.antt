-- The clearing unit, and a list that comes after it. Assumes nothing.
use Rattle.std.specs.Prelude.{if◌then◌else◌, Err, Ok, Result}
use Prim.Native.Nat.{ℕ, zero, suc, ◌+◌, ◌-◌, ◌≤◌, ◌<◌}
use native.Mathlib.Omega.{arith}
use mathlib.Core.Path.{◌≡◌, refl, sym, ◌∙◌, ap}
use mathlib.Core.Bool.{Bool, true, false}
use mathlib.Core.List.{List, [], ◌∷◌, ◌++◌}
use lib.Dec.{leb, eqb}
use lib.ListN.{length, take}
use lib.Seq.{take-nil}
use borrow.Author.Tests.{eq-eqb, ne_eqb, leb-true}
use Rattle.choice.proofs.Tests.{if_elim}
use Rattle.endian.specs.Big.{be64, bytes64}
use Rattle.endian.proofs.Laws.{SamePart, splice-after, length-bytes64}
use Rattle.units.specs.Units.{UnitStore, entry, apply_all}
use Rattle.units.specs.Plan.{Plan, refused, units, ended, outcome, Done}
use Rattle.units.specs.declared.Ended.{Ended}
use Rattle.units.specs.declared.Ended.TheVariants.{Finished, Stopped}
use Rattle.units.proofs.Laws.{entry-some}
use Rattle.units.proofs.Steps.{refusal, nothing, ended-after, after_first}
use Rattle.qcow2_spec.specs.Header.{version, autoclear}
use Rattle.qcow2_spec.specs.Store.{clear_units, clearing}
use Rattle.qcow2_clear.specs.Ends.{Within, whole_end}

-- ---- how the whole list ends
whole-ended : (m b a : ℕ) → whole_end (Ok (ended m b)) b a ≡ Ok (if leb m b then Finished (a - b + m) else Stopped a)
unfolding ended
whole-ended m b a = go (leb m b)
  where
    go : (t : Bool) → whole_end (Ok (if t then Finished m else Stopped b)) b a ≡ Ok (if t then Finished (a - b + m) else Stopped a)
    go true = refl
    go false = refl

-- the answer is how the list ends
pub end_is : (us : List UnitStore) (b : ℕ) (v t : List ℕ) (r : Ended) → Done (units us) b v (Ok r) t → r ≡ ended (length us) b
unfolding outcome
end_is us b v t r d = let e : ◌≡◌ {A = Result Ended ℕ} (Ok r) (Ok (ended (length us) b)) = d.answer in (cc e)

pub within : (us : List UnitStore) (b : ℕ) (v t : List ℕ) (r : Result Ended ℕ) → Done (units us) b v r t → Within r b
unfolding outcome ended
within us b v t r d = rw d.answer (go (leb (length us) b) refl)
  where
    go : (x : Bool) → leb (length us) b ≡ x → Within (Ok (if x then Finished (length us) else Stopped b)) b
    go true e = leb-true _ _ e
    go false e = tt

module _ (s : List ℕ) where
  -- ---- whether there is a clearing unit
  pub clear_old : (version s ≡ 3 → ⊥) → clear_units s ≡ []
  unfolding clear_units autoclear
  clear_old h = rw (ne_eqb (version s) 3 h)

  pub clear_none : version s ≡ 3 → be64 s 88 ≡ 0 → clear_units s ≡ []
  unfolding clear_units autoclear
  clear_none v z = rw (eq-eqb (version s) 3 v, z)

  pub clear-one : version s ≡ 3 → (be64 s 88 ≡ 0 → ⊥) → clear_units s ≡ entry 88 0 ∷ []
  unfolding clear_units autoclear
  clear-one v z = rw (eq-eqb (version s) 3 v, ne_eqb (be64 s 88) 0 z)

  module _ (a : ℕ) where
    pub uncleared : clear_units s ≡ [] → (a ≡ a - length (clear_units s)) × (s ≡ apply_all (take a (clear_units s)) s)
    unfolding apply_all
    uncleared e = rw (e, take-nil) (omega arith, refl)

    -- it keeps the bytes past the field
    pub clear_keeps : (x w : ℕ) → 96 ≤ length s → 96 ≤ x → SamePart (apply_all (take a (clear_units s)) s) x s x w
    unfolding clear_units apply_all
    clear_keeps x w h l =
        if_elim (λ (us : List UnitStore). SamePart (apply_all (take a us) s) x s x w) (eqb (autoclear s) 0) _ _ (λ e. none) (λ e. one a)
      where
        none : SamePart (apply_all (take a []) s) x s x w
        none = rw take-nil (λ k z. refl)

        one : (b : ℕ) → SamePart (apply_all (take b (entry 88 0 ∷ [])) s) x s x w
        one zero = λ k z. refl
        one (suc b) =
            let n : length (bytes64 0) ≡ 8 = length-bytes64 0 in
            rw (← entry-some s 88 0 (suc b) (omega arith) (λ z. omega arith)) (splice-after s 88 (bytes64 0) x w (omega arith) (omega arith))

    -- ---- the units us after it, with b left
    pub clear_first : (us : List UnitStore) (b : ℕ) (v t : List ℕ) (r : Result Ended ℕ) → 0 < length us → b ≡ a - length (clear_units s) → v ≡ apply_all (take a (clear_units s)) s
        → Done (units us) b v r t → Done (units (clear_units s ++ us)) a s (whole_end r b a) t
    unfolding outcome
    clear_first us b v t r h e p d =
        let n = length (clear_units s) in
        let m = length us in
        let w : whole_end r b a ≡ Ok (ended (n + m) a) = rw d.answer (whole-ended m b a ∙ ap Ok (sym (ended-after n m a b e h))) in
        rw w (after_first (clear_units s) us a b s v t (ended m b) (ended (n + m) a) e p refl (record { answer = refl; left = d.left }))

    -- ---- a plan that it is put before
    module _ (p : Plan) where
      pub clear-refused : (k : ℕ) → p ≡ refused k → Done (clearing s p) a s (Err k) s
      unfolding clearing
      clear-refused k e = rw e (refusal k a s (Err k) refl)

      pub clear_idle : (r : Ended) → p ≡ units [] → r ≡ ended 0 a → Done (clearing s p) a s (Ok r) s
      unfolding clearing
      clear_idle r e f = rw e (nothing a s r f)

      pub clear-stored : (us : List UnitStore) (r : Result Ended ℕ) (t : List ℕ) → p ≡ units us → 0 < length us → Done (units (clear_units s ++ us)) a s r t → Done (clearing s p) a s r t
      unfolding clearing
      clear-stored [] r t e h d = absurd (omega arith)
      clear-stored (u ∷ us) r t e h d = rw e d
