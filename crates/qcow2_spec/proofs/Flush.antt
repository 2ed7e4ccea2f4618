-- Laws of the flushes and of what a cut with no order stores. A rough cut is one of these. Assumes nothing.
use Prim.Native.Nat.{ℕ, zero, suc, ◌+◌, ◌-◌, ◌≤◌, ◌<◌}
use native.Mathlib.Omega.{arith}
use mathlib.Core.Path.{◌≡◌, refl, sym, ap, ap₂, ◌∙◌, subst}
use mathlib.Core.Logic.{◌⊎◌, inl, inr}
use mathlib.Core.Bool.{Bool, true, false, ◌&&◌}
use mathlib.Core.List.{List, [], ◌∷◌, ◌++◌, append_assoc, append-nil}
use lib.Dec.{leb, eqb}
use lib.ListN.{length, take, drop, replicate, length-append, take-append-drop}
use lib.Seq.{take-nil, take-length, drop-length, take-append_seam, drop-append_seam, take-append-le, drop-append-le, take-append-add, drop-append-add}
use borrow.Author.Tests.{leb-true, leb-false, le-leb}
use Rattle.choice.specs.Pick.{unless}
use Rattle.choice.proofs.Tests.{true-not-false, if_yes, if_no, if_elim, and-true, two_ways}
use Rattle.units.specs.Units.{UnitStore, byte, entry, count, apply_all}
use Rattle.units.specs.Plan.{Plan, refused, units, plan_units}
use Rattle.units.proofs.Laws.{apply_all_append}
use Rattle.qcow2_spec.specs.Header.{autoclear_at, autoclear, judge}
use Rattle.qcow2_spec.specs.Store.{clear_units, clearing, judged, write_plan, discard_plan}
use Rattle.qcow2_spec.specs.Check.{repair_plan}
use Rattle.qcow2_spec.specs.Disk.{Request, write, discard, repair, plan_of}
use Rattle.qcow2_spec.specs.Rough.{chosen, roughly, after_rough}
use Rattle.qcow2_spec.specs.Flush.{stores_entry, ends_whole, flush_at, halves, epochs, joined, picked, loosely, after_loose}
use Rattle.qcow2_spec.proofs.Rough.{roughly_nil, roughly-all}

-- ---- the flush inside a list
entry-last : (us : List UnitStore) (a v : ℕ) → stores_entry (us ++ entry a v ∷ []) ≡ true
unfolding stores_entry
entry-last [] a v = refl
entry-last (byte b w ∷ us) a v = entry-last us a v
entry-last (entry b w ∷ us) a v = refl
entry-last (count x b w ∷ us) a v = entry-last us a v

ends_last : (us : List UnitStore) (u : UnitStore) → ends_whole (us ++ u ∷ []) ≡ ends_whole (u ∷ [])
unfolding ends_whole
ends_last [] u = refl
ends_last (byte a v ∷ []) u = refl
ends_last (entry a v ∷ []) u = refl
ends_last (count x a v ∷ []) u = refl
ends_last (u ∷ v ∷ us) w = ends_last (v ∷ us) w

less_one : (us : List UnitStore) (u : UnitStore) → length (us ++ u ∷ []) - 1 ≡ length us
less_one us u = omega (arith, length-append us (u ∷ []))

halves-last : (us : List UnitStore) (u : UnitStore) → stores_entry (us ++ u ∷ []) ≡ true → ends_whole (u ∷ []) ≡ true → halves (us ++ u ∷ []) ≡ us ∷ (u ∷ []) ∷ []
unfolding halves flush_at
halves-last us u e w = rw (e, ends_last us u, w, less_one us u, take-append_seam us (u ∷ []), drop-append_seam us (u ∷ [])) refl

-- a list that ends with an entry
pub halves-entry : (us : List UnitStore) (a v : ℕ) → halves (us ++ entry a v ∷ []) ≡ us ∷ (entry a v ∷ []) ∷ []
unfolding ends_whole
halves-entry us a v = halves-last us (entry a v) (entry-last us a v) refl

-- two entries after two lists
pub halves-table : (us vs : List UnitStore) (u : UnitStore) (a v : ℕ) → halves (us ++ vs ++ u ∷ entry a v ∷ []) ≡ (us ++ (vs ++ u ∷ [])) ∷ (entry a v ∷ []) ∷ []
halves-table us vs u a v = ap halves (sym e) ∙ halves-entry (us ++ (vs ++ u ∷ [])) a v
  where
    e : (us ++ (vs ++ u ∷ [])) ++ entry a v ∷ [] ≡ us ++ vs ++ u ∷ entry a v ∷ []
    e = append_assoc us (vs ++ u ∷ []) (entry a v ∷ []) ∙ ap (λ (ws : List UnitStore). us ++ ws) (append_assoc vs (u ∷ []) (entry a v ∷ [])) ∙ sym (append_assoc us vs (u ∷ entry a v ∷ []))

-- an entry and a count
pub halves-drop : (a v x b w : ℕ) → halves (entry a v ∷ count x b w ∷ []) ≡ (entry a v ∷ []) ∷ (count x b w ∷ []) ∷ []
unfolding stores_entry ends_whole
halves-drop a v x b w = halves-last (entry a v ∷ []) (count x b w) refl refl

-- no entry, no flush
pub halves-none : (us : List UnitStore) → stores_entry us ≡ false → halves us ≡ us ∷ [] ∷ []
unfolding halves flush_at
halves-none us e = rw (e, take-length us, drop-length us) refl

-- ---- what is picked
pub picked_nil : (cs : List Bool) → picked cs [] ≡ []
unfolding picked
picked_nil [] = refl
picked_nil (c ∷ cs) = refl

-- all units, or the first ones and some of the others, are units that are picked
pub picked-front : (a : ℕ) (cs : List Bool) (us : List UnitStore) → picked (replicate a true ++ cs) us ≡ take a us ++ picked cs (drop a us)
unfolding picked
picked-front zero cs us = refl
picked-front (suc a) cs [] = sym (picked_nil cs)
picked-front (suc a) cs (u ∷ us) = ap (λ (vs : List UnitStore). u ∷ vs) (picked-front a cs us)

pub picked_all : (us : List UnitStore) → picked (replicate (length us) true) us ≡ us
unfolding picked
picked_all [] = refl
picked_all (u ∷ us) = ap (λ (vs : List UnitStore). u ∷ vs) (picked_all us)

-- ---- M holds whichever units of an epoch are stored after those of the epochs before it, and Q once all are
unfoldable pub Held : (M Q : List ℕ → Type 0) → List (List UnitStore) → List ℕ → Type 0
Held M Q [] t = Q t
Held M Q (us ∷ es) t = ((cs : List Bool) → M (apply_all (picked cs us) t)) × Held M Q es (apply_all us t)

module _ (M Q : List ℕ → Type 0) where
  pub held_cut : (es : List (List UnitStore)) (t : List ℕ) → M t → Held M Q es t → (a : ℕ) (cs : List Bool) → M (apply_all (loosely es a cs) t)
  unfolding Held loosely apply_all
  held_cut [] t m h a cs = m
  held_cut (us ∷ es) t m h a cs =
      if_elim (λ (vs : List UnitStore). M (apply_all vs t)) (leb (length us) a) _ _
      (λ e. rw apply_all_append (held_cut es (apply_all us t) (subst (λ (vs : List UnitStore). M (apply_all vs t)) (picked_all us) (h.0 (replicate (length us) true))) h.1 (a - length us) cs))
      (λ e. subst (λ (vs : List UnitStore). M (apply_all vs t)) (picked-front a cs us) (h.0 (replicate a true ++ cs)))

-- ---- a call's list is its epochs
pub halves-whole : (us : List UnitStore) → joined (halves us) ≡ us
unfolding halves joined
halves-whole us = rw (append-nil (drop (flush_at us) us)) (take-append-drop (flush_at us) us)

pub epochs-whole : (s : List ℕ) (us : List UnitStore) → joined (epochs s us) ≡ us
unfolding epochs joined
epochs-whole s us = rw (halves-whole (drop (length (clear_units s)) us)) (take-append-drop (length (clear_units s)) us)

pub held_end : (M Q : List ℕ → Type 0) (es : List (List UnitStore)) (t : List ℕ) → Held M Q es t → Q (apply_all (joined es) t)
unfolding Held joined apply_all
held_end M Q [] t h = h
held_end M Q (us ∷ es) t h = rw apply_all_append (held_end M Q es (apply_all us t) h.1)

-- with no unit chosen, a cut is a smooth one
pub loosely-none : (es : List (List UnitStore)) (a : ℕ) → loosely es a [] ≡ take a (joined es)
unfolding loosely joined picked
loosely-none [] a = sym (take-nil {A = UnitStore} a)
loosely-none (us ∷ es) a =
    if_elim (λ (vs : List UnitStore). vs ≡ take a (us ++ joined es)) (leb (length us) a) _ _
    (λ e. let h : length us + (a - length us) ≡ a = omega (arith, leb-true (length us) a e) in
    ap (λ (vs : List UnitStore). us ++ vs) (loosely-none es (a - length us)) ∙ sym (take-append-add us (joined es) (a - length us)) ∙ ap (λ (n : ℕ). take n (us ++ joined es)) h)
    (λ e. append-nil (take a us) ∙ sym (take-append-le a us (joined es) (omega (arith, leb-false (length us) a e))))

-- a list that is stored whole is not cut
pub loosely-all : (es : List (List UnitStore)) (a : ℕ) (cs : List Bool) → length (joined es) ≤ a → loosely es a cs ≡ joined es
unfolding loosely joined
loosely-all [] a cs h = refl
loosely-all (us ∷ es) a cs h =
    let n : length us + length (joined es) ≤ a = omega (arith, length-append us (joined es)) in
    if_yes (leb (length us) a) _ _ (le-leb (length us) a (omega arith)) ∙ ap (λ (vs : List UnitStore). us ++ vs) (loosely-all es (a - length us) cs (omega arith))

-- a cut after the first epoch
pub loosely-past : (us : List UnitStore) (es : List (List UnitStore)) (n a : ℕ) (cs : List Bool) → n ≡ length us + a → loosely (us ∷ es) n cs ≡ us ++ loosely es a cs
unfolding loosely
loosely-past us es n a cs e =
    let z : n - length us ≡ a = omega arith in
    if_yes (leb (length us) n) _ _ (le-leb (length us) n (omega arith)) ∙ ap (λ (b : ℕ). us ++ loosely es b cs) z

-- ---- a rough cut
-- the bytes that a list starts with, chosen, are units picked; so are they in a longer list that goes on with an entry or a count
chosen-picked : (cs : List Bool) (us ws : List UnitStore) → ((ds : List Bool) → chosen ds ws ≡ []) → (ds : List Bool) × (chosen cs (us ++ ws) ≡ picked ds us)
unfolding chosen picked
chosen-picked cs [] ws h = ([], h cs)
chosen-picked [] (u ∷ us) ws h = ([], refl)
chosen-picked (true ∷ cs) (byte a v ∷ us) ws h = let r = chosen-picked cs us ws h in (true ∷ r.0, ap (λ (vs : List UnitStore). byte a v ∷ vs) r.1)
chosen-picked (false ∷ cs) (byte a v ∷ us) ws h = let r = chosen-picked cs us ws h in (false ∷ r.0, r.1)
chosen-picked (c ∷ cs) (entry a v ∷ us) ws h = ([], refl)
chosen-picked (c ∷ cs) (count w a v ∷ us) ws h = ([], refl)

chosen_nil : (cs : List Bool) → chosen cs [] ≡ []
unfolding chosen
chosen_nil [] = refl
chosen_nil (c ∷ cs) = refl

-- a rough cut of one epoch
rough_one : (us : List UnitStore) (a : ℕ) (cs : List Bool) → (ds : List Bool) × (roughly us a cs ≡ loosely (us ∷ []) a ds)
unfolding roughly loosely
rough_one us a cs =
    let r = chosen-picked cs (drop a us) [] chosen_nil in (
      r.0,
      if_elim (λ (vs : List UnitStore). roughly us a cs ≡ vs) (leb (length us) a) _ _ (λ e. roughly-all us a cs (leb-true _ _ e) ∙ sym (append-nil us))
          (λ e. ap (λ (vs : List UnitStore). take a us ++ vs) (ap (chosen cs) (sym (append-nil (drop a us))) ∙ r.1)),
    )

-- and of two, of which the second starts with an entry or a count
rough_two : (us ws : List UnitStore) → ((ds : List Bool) → chosen ds ws ≡ []) → (a : ℕ) (cs : List Bool) → (ds : List Bool) × (roughly (us ++ ws) a cs ≡ loosely (us ∷ ws ∷ []) a ds)
unfolding roughly loosely
rough_two us ws h a cs = go (two_ways (leb (length us) a))
  where
    go : (leb (length us) a ≡ true) ⊎ (leb (length us) a ≡ false) → (ds : List Bool) × (roughly (us ++ ws) a cs ≡ loosely (us ∷ ws ∷ []) a ds)
    go (inl e) =
        let r = rough_one ws (a - length us) cs in
        let l : length us ≤ a = leb-true _ _ e in
        let n : a ≡ length us + (a - length us) = omega arith in (
          r.0,
          ap (λ (b : ℕ). take b (us ++ ws) ++ chosen cs (drop b (us ++ ws))) n
              ∙ ap₂ (λ (x y : List UnitStore). x ++ chosen cs y) (take-append-add us ws (a - length us)) (drop-append-add us ws (a - length us))
              ∙ append_assoc us (take (a - length us) ws) (chosen cs (drop (a - length us) ws)) ∙ ap (λ (vs : List UnitStore). us ++ vs) r.1 ∙ sym (if_yes (leb (length us) a) _ _ e),
        )
    go (inr e) =
        let l : a < length us = leb-false _ _ e in
        let r = chosen-picked cs (drop a us) ws h in (
          r.0,
          ap₂ (λ (x y : List UnitStore). x ++ chosen cs y) (take-append-le a us ws (omega arith)) (drop-append-le a us ws (omega arith))
              ∙ ap (λ (vs : List UnitStore). take a us ++ vs) r.1 ∙ sym (if_no (leb (length us) a) _ _ e),
        )

last-whole : (us : List UnitStore) → ends_whole us ≡ true → (cs : List Bool) → chosen cs (drop (length us - 1) us) ≡ []
unfolding ends_whole chosen
last-whole [] h cs = chosen_nil cs
last-whole (byte a v ∷ []) h cs = absurd (true-not-false h refl)
last-whole (entry a v ∷ []) h [] = refl
last-whole (entry a v ∷ []) h (c ∷ cs) = refl
last-whole (count w a v ∷ []) h [] = refl
last-whole (count w a v ∷ []) h (c ∷ cs) = refl
last-whole (u ∷ v ∷ us) h cs =
    let e : length (u ∷ v ∷ us) - 1 ≡ suc (length (v ∷ us) - 1) = omega arith in
    ap (λ (n : ℕ). chosen cs (drop n (u ∷ v ∷ us))) e ∙ last-whole (v ∷ us) h cs

flush_whole : (us : List UnitStore) (cs : List Bool) → chosen cs (drop (flush_at us) us) ≡ []
unfolding flush_at
flush_whole us cs =
    if_elim (λ (n : ℕ). chosen cs (drop n us) ≡ []) (stores_entry us && ends_whole us) _ _
    (λ e. last-whole us (and-true (stores_entry us) _ e).1 cs) (λ e. ap (chosen cs) (drop-length us) ∙ chosen_nil cs)

rough_halves : (us : List UnitStore) (a : ℕ) (cs : List Bool) → (ds : List Bool) × (roughly us a cs ≡ loosely (halves us) a ds)
unfolding halves
rough_halves us a cs =
    let r = rough_two (take (flush_at us) us) (drop (flush_at us) us) (flush_whole us) a cs in
    (r.0, ap (λ (vs : List UnitStore). roughly vs a cs) (sym (take-append-drop (flush_at us) us)) ∙ r.1)

-- a rough cut of a call's list is one with no order
module _ (s : List ℕ) (a : ℕ) (cs : List Bool) where
  abbrev AsLoose : List UnitStore → Type 0
  AsLoose us = (ds : List Bool) × (roughly us a cs ≡ loosely (epochs s us) a ds)

  rough_none : AsLoose []
  rough_none = ([], roughly_nil a cs ∙ sym (epochs-whole s []) ∙ sym (loosely-all (epochs s []) a [] (rw (epochs-whole s []) (omega arith))))

  rough_clearing : (p : Plan) → AsLoose (plan_units (clearing s p))
  unfolding plan_units clearing clear_units epochs loosely roughly picked chosen
  rough_clearing (refused n) = rough_none
  rough_clearing (units []) = rough_none
  rough_clearing (units (u ∷ us)) =
      if_elim (λ (ls : List UnitStore). (ds : List Bool) × (roughly (ls ++ u ∷ us) a cs ≡ loosely (take (length ls) (ls ++ u ∷ us) ∷ halves (drop (length ls) (ls ++ u ∷ us))) a ds)) (eqb (autoclear s) 0) _ _
      (λ e. after_none (u ∷ us)) (λ e. after-clear a (u ∷ us))
    where
      after_none : (us : List UnitStore) → (ds : List Bool) × (roughly us a cs ≡ loosely ([] ∷ halves us) a ds)
      after_none us =
          let r = rough_halves us a cs in
          (r.0, r.1 ∙ sym (loosely-past [] (halves us) a a r.0 (omega arith)))

      after-clear : (a : ℕ) (us : List UnitStore) → (ds : List Bool) × (roughly (entry autoclear_at 0 ∷ us) a cs ≡ loosely ((entry autoclear_at 0 ∷ []) ∷ halves us) a ds)
      after-clear zero us = ([], go cs)
        where
          go : (cs : List Bool) → chosen cs (entry autoclear_at 0 ∷ us) ≡ []
          go [] = refl
          go (c ∷ cs) = refl
      after-clear (suc a) us =
          let r = rough_halves us a cs in
          (r.0, ap (λ (vs : List UnitStore). entry autoclear_at 0 ∷ vs) r.1 ∙ sym (loosely-past (entry autoclear_at 0 ∷ []) (halves us) (suc a) a r.0 (omega arith)))

  rough_judged : (backing : List ℕ) (p : Plan) → AsLoose (plan_units (judged backing s p))
  unfolding judged plan_units
  rough_judged backing p = go (judge backing s)
    where
      go : (j : ℕ) → AsLoose (plan_units (unless j refused (clearing s p)))
      go zero = rough_clearing p
      go (suc j) = rough_none

  stored : (us : List UnitStore) → AsLoose us → (ds : List Bool) × (apply_all (roughly us a cs) s ≡ apply_all (loosely (epochs s us) a ds) s)
  stored us r = (r.0, ap (λ (vs : List UnitStore). apply_all vs s) r.1)

  pub rough_loose : (backing : List ℕ) (r : Request) → (ds : List Bool) × (after_rough (plan_of backing s r) a cs s ≡ after_loose (plan_of backing s r) a ds s)
  unfolding plan_of write_plan discard_plan repair_plan after_rough after_loose
  rough_loose backing (write x d) = stored _ (rough_judged backing _)
  rough_loose backing (discard g) = stored _ (rough_judged backing _)
  rough_loose backing (repair n) = stored _ (rough_judged backing _)
