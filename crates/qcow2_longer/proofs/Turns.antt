-- One run on an image of the series: what is left to store, and what the run leaves, cut or not. Assumes nothing.
use Prim.Native.Nat.{ℕ, zero, suc, ◌+◌, ◌-◌, ◌≤◌, ◌<◌}
use native.Mathlib.Nat.{le_refl}
use native.Mathlib.Decide.{ℕ_discrete}
use native.Mathlib.Omega.{arith}
use mathlib.Core.Path.{◌≡◌, refl, sym, ap, ◌∙◌, subst}
use mathlib.Core.Logic.{◌⊎◌, inl, inr, ◌≢◌}
use mathlib.Core.Bool.{Bool}
use mathlib.Core.List.{List, [], ◌∷◌, ◌++◌}
use lib.Dec.{eqb}
use lib.ListN.{length, length-append}
use Rattle.choice.specs.Pick.{unless}
use Rattle.choice.proofs.Tests.{if_elim}
use Rattle.endian.specs.Big.{be64}
use Rattle.tally.specs.Tally.{run}
use Rattle.units.specs.Units.{UnitStore, entry, apply_all}
use Rattle.units.specs.Plan.{refused, units, plan_units}
use Rattle.qcow2_spec.specs.Header.{autoclear_at, autoclear, blocks}
use Rattle.qcow2_spec.specs.Store.{clear_units, clearing}
use Rattle.qcow2_spec.specs.Rough.{chosen, roughly, after_rough}
use Rattle.qcow2_spec.proofs.Rough.{roughly_nil}
use Rattle.qcow2_longer.specs.Extend.{old_blocks, new_blocks, new_place, make_block, make_blocks, extend_number, extend_plan}
use Rattle.qcow2_longer.specs.Longer.{rest}
use Rattle.qcow2_longer.proofs.Between.{slot, New, Room, Made, Between, AllMade, SomeLeft}
use Rattle.qcow2_longer.proofs.Fields.{new_either, fields, place-pos}
use Rattle.qcow2_longer.proofs.Made.{Cleared, clear-entry, clear_between, cleared-none}
use Rattle.qcow2_longer.proofs.Going.{Going, Left, filling, make_block-some, make_block-none, Leaves, blocks-left}

-- ---- a list that has a unit comes after the clearing one
front-none : (t : List ℕ) (us : List UnitStore) → us ≡ [] → plan_units (clearing t (units us)) ≡ []
unfolding clearing plan_units
front-none t [] e = refl
front-none t (u ∷ us) e = absurd (let z : suc (length us) ≡ 0 = ap length e in omega arith)

front-some : (t : List ℕ) (us : List UnitStore) → 0 < length us → plan_units (clearing t (units us)) ≡ clear_units t ++ us
unfolding clearing plan_units
front-some t [] h = absurd (omega arith)
front-some t (u ∷ us) h = refl

module _ {s : List ℕ} {old : ℕ} (r : Room s old) {t : List ℕ} (b : Between s old t) where
  -- ---- the blocks that are left
  -- no block is left to make, or one is
  pub rest_either : AllMade s old t ⊎ SomeLeft s old t
  rest_either = turn_round (new_either s old (λ i. be64 t (slot s i) ≡ 0) (Made s t) b.each)
    where
      turn_round : SomeLeft s old t ⊎ AllMade s old t → AllMade s old t ⊎ SomeLeft s old t
      turn_round (inl x) = inr x
      turn_round (inr f) = inl f

  -- ---- the list
  makes_none : AllMade s old t → (k i : ℕ) → old_blocks s old ≤ i → i + k ≡ blocks s → make_blocks t (run i k) ≡ []
  unfolding run make_blocks
  makes_none m zero i l e = refl
  makes_none m (suc k) i l e =
      let n : New s old i = (l, omega arith) in
      let d : be64 t (slot s i) ≢ 0 = λ z. omega (arith, (m i n).named, place-pos r i n) in
      rw (make_block-none r b i d) (makes_none m k (suc i) (omega arith) (omega arith))

  makes_some : (j : ℕ) → be64 t (slot s j) ≡ 0 → (k i : ℕ) → i ≤ j → j < i + k → 0 < length (make_blocks t (run i k))
  unfolding run make_blocks
  makes_some j z zero i l h = absurd (omega arith)
  makes_some j z (suc k) i l h = go (ℕ_discrete j i) (λ d. makes_some j z k (suc i) (omega arith) (omega arith))
    where
      many : length (make_block t i ++ make_blocks t (run (suc i) k)) ≡ length (make_block t i) + length (make_blocks t (run (suc i) k))
      many = length-append (make_block t i) (make_blocks t (run (suc i) k))

      one : j ≡ i → length (make_block t i) ≡ length (filling s i) + 1
      one q = ap length (make_block-some r b i (subst (λ (x : ℕ). be64 t (slot s x) ≡ 0) q z)) ∙ length-append (filling s i) (entry (slot s i) (new_place s i) ∷ [])

      go : Dec (j ≡ i) → (j ≢ i → 0 < length (make_blocks t (run (suc i) k))) → 0 < length (make_block t i ++ make_blocks t (run (suc i) k))
      go (yes q) f = omega (arith, many, one q)
      go (no d) f = omega (arith, many, f d)

  abbrev makes : List UnitStore
  makes = make_blocks t (run (old_blocks s old) (blocks s - old_blocks s old))

  whole : old_blocks s old + (blocks s - old_blocks s old) ≡ blocks s
  whole = omega (arith, r.fewer)

  makes_nil : AllMade s old t → makes ≡ []
  makes_nil m = makes_none m (blocks s - old_blocks s old) (old_blocks s old) (le_refl (old_blocks s old)) whole

  makes_more : SomeLeft s old t → 0 < length makes
  makes_more x = makes_some x.0 x.2 (blocks s - old_blocks s old) (old_blocks s old) x.1.0 (omega (arith, whole, x.1.1))

  module _ (accepted : extend_number t old ≡ 0) where
    rest-is : rest old t ≡ plan_units (clearing t (units makes))
    unfolding rest extend_plan new_blocks
    rest-is =
        ap (λ (k : ℕ). plan_units (unless k refused (clearing t (units (make_blocks t (new_blocks t old)))))) accepted
        ∙ ap (λ (is : List ℕ). plan_units (clearing t (units (make_blocks t is)))) (fields r b).new_blocks-is

    pub rest-none : AllMade s old t → rest old t ≡ []
    rest-none m = rest-is ∙ front-none t makes (makes_nil m)

    -- an old length whose blocks are all that there are
    pub rest_idle : blocks s ≤ old_blocks s old → rest old t ≡ []
    rest_idle l = rest-none (λ i n. absurd (omega (arith, n.0, n.1)))

    rest-front : SomeLeft s old t → rest old t ≡ clear_units t ++ makes
    rest-front x = rest-is ∙ front-some t makes (makes_more x)

    pub rest_some : SomeLeft s old t → rest old t ≢ []
    rest_some x e = omega (arith, makes_more x, sym (length-append (clear_units t) makes) ∙ ap length (sym (rest-front x) ∙ e))

  -- ---- what a run leaves
  -- once the clearing unit is stored, or at once where there is none, it comes to the first new block
  going_first : Going s old t (old_blocks s old) (apply_all (clear_units t) t)
  unfolding apply_all
  going_first = go b.started
    where
      at_s : (k : Between s old s) → Going s old s (old_blocks s old) (apply_all (clear_units s) s)
      at_s k =
          record {
            between = clear_between r k;
            cleared = λ x l h. refl;
            made = λ j n l. absurd (omega (arith, n.0));
            later = λ j n l. clear-entry r k j n;
          }

      go : (t ≡ s) ⊎ Cleared s t → Going s old t (old_blocks s old) (apply_all (clear_units t) t)
      go (inl q) = subst (λ (u : List ℕ). Going s old u (old_blocks s old) (apply_all (clear_units u) u)) (sym q) (at_s (subst (Between s old) q b))
      go (inr c) = rw (cleared-none r b c) (record { between = b; cleared = c; made = λ j n l. absurd (omega (arith, n.0)); later = λ j n l. refl })

  -- the clearing unit in front is an entry, which a cut stores whole or not at all
  clearing-left : (us : List UnitStore) → SomeLeft s old t → Leaves s old us (apply_all (clear_units t) t) → Leaves s old (clear_units t ++ us) t
  unfolding clear_units apply_all roughly chosen
  clearing-left us x =
      if_elim (λ (ls : List UnitStore). Leaves s old us (apply_all ls t) → Leaves s old (ls ++ us) t) (eqb (autoclear t) 0) _ _ (λ e h. h) (λ e h a cs. go h a cs)
    where
      none : (cs : List Bool) → Left s old (suc (length us)) 0 (apply_all (chosen cs (entry autoclear_at 0 ∷ us)) t)
      none [] = record { between = b; finished = λ l. absurd (omega arith); stopped = λ l. x }
      none (c ∷ cs) = record { between = b; finished = λ l. absurd (omega arith); stopped = λ l. x }

      go : Leaves s old us (apply_all (entry autoclear_at 0 ∷ []) t) → (a : ℕ) (cs : List Bool) → Left s old (suc (length us)) a (apply_all (roughly (entry autoclear_at 0 ∷ us) a cs) t)
      go h zero cs = none cs
      go h (suc a) cs =
          let l = h a cs in
          record { between = l.between; finished = λ k. l.finished (omega arith); stopped = λ k. l.stopped (omega arith) }

  nothing_left : AllMade s old t → Leaves s old [] t
  unfolding apply_all
  nothing_left m a cs = rw (roughly_nil a cs) (record { between = b; finished = λ l. m; stopped = λ l. absurd (omega arith) })

  rest-left : extend_number t old ≡ 0 → Leaves s old (rest old t) t
  rest-left accepted = go rest_either
    where
      go : AllMade s old t ⊎ SomeLeft s old t → Leaves s old (rest old t) t
      go (inl m) = subst (λ (us : List UnitStore). Leaves s old us t) (sym (rest-none accepted m)) (nothing_left m)
      go (inr x) =
          subst (λ (us : List UnitStore). Leaves s old us t) (sym (rest-front accepted x))
          (clearing-left makes x (blocks-left r b (blocks s - old_blocks s old) (old_blocks s old) _ (le_refl (old_blocks s old)) whole going_first))

  -- ---- one turn
  pub turn_finished : extend_number t old ≡ 0 → (a : ℕ) (cs : List Bool) → length (rest old t) ≤ a → AllMade s old (after_rough (extend_plan t old) a cs t)
  unfolding rest after_rough
  turn_finished accepted a cs l = (rest-left accepted a cs).finished l

  pub turn_stopped : extend_number t old ≡ 0 → (a : ℕ) (cs : List Bool) → a < length (rest old t) → SomeLeft s old (after_rough (extend_plan t old) a cs t)
  unfolding rest after_rough
  turn_stopped accepted a cs l = (rest-left accepted a cs).stopped l

  pub turn : (a : ℕ) (cs : List Bool) → Between s old (after_rough (extend_plan t old) a cs t)
  unfolding rest after_rough extend_plan plan_units apply_all
  turn a cs = go (extend_number t old) refl
    where
      go : (k : ℕ) → extend_number t old ≡ k → Between s old (after_rough (extend_plan t old) a cs t)
      go zero e = (rest-left e a cs).between
      go (suc k) e = rw (e, roughly_nil a cs) b

  -- with nothing left to store it changes nothing
  pub turn_none : rest old t ≡ [] → (a : ℕ) (cs : List Bool) → after_rough (extend_plan t old) a cs t ≡ t
  unfolding rest after_rough apply_all
  turn_none e a cs = rw (e, roughly_nil a cs) refl
