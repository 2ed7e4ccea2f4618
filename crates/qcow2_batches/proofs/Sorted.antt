-- A list of units by phase, as a relation that is built part by part. Assumes nothing.
use Prim.Native.Nat.{ℕ, zero, suc, ◌+◌, ◌<◌, ◌≤◌}
use native.Mathlib.Omega.{arith}
use mathlib.Core.Path.{◌≡◌, refl, sym, ap, ◌∙◌}
use mathlib.Core.Bool.{Bool, true, ◌||◌, or_assoc, or_comm}
use mathlib.Core.List.{List, [], ◌∷◌, ◌++◌}
use lib.Dec.{ltb}
use lib.ListN.{length}
use lib.Seq.{take-nil, drop-nil}
use borrow.Author.Tests.{lt-ltb, le-ltb}
use Rattle.choice.proofs.Tests.{if_yes, if_no}
use Rattle.widths.specs.Width.{number}
use Rattle.units.specs.Units.{UnitStore, byte, entry, count, fill}
use Rattle.qcow2_spec.specs.Store.{clear_units}
use Rattle.qcow2_spec.specs.Steps.{Extent, join, extents, covers}
use Rattle.cuts.proofs.Run.{Store}
use Rattle.qcow2_spec.proofs.Extents.{holds, covers-join}
use Rattle.qcow2_spec.proofs.Units.{Like, none, also}
use Rattle.qcow2_batches.specs.Batch.{meets, phase_of, grown, in_phase, call_phase}
use Rattle.qcow2_batches.proofs.Covers.{meets_here, meets-none}

-- the units us, planned on s after the bytes `ready`, are a in phase 1, b in phase 2 and c in phase 3
pub data Sorted (s : List ℕ) : List Extent → (us a b c : List UnitStore) → Type 0 where
  ends : {ready : List Extent} → Sorted s ready [] [] [] []
  first : {ready : List Extent} {u : UnitStore} {us a b c : List UnitStore} → phase_of s ready u ≡ 1 → Sorted s (join u ready) us a b c → Sorted s ready (u ∷ us) (u ∷ a) b c
  second : {ready : List Extent} {u : UnitStore} {us a b c : List UnitStore} → phase_of s ready u ≡ 2 → Sorted s ready us a b c → Sorted s ready (u ∷ us) a (u ∷ b) c
  third : {ready : List Extent} {u : UnitStore} {us a b c : List UnitStore} → phase_of s ready u ≡ 3 → Sorted s ready us a b c → Sorted s ready (u ∷ us) a b (u ∷ c)

-- so they are by the definition
pub sorted_in : {s : List ℕ} {ready : List Extent} {us a b c : List UnitStore} → Sorted s ready us a b c
    → (in_phase 1 s ready us ≡ a) × (in_phase 2 s ready us ≡ b) × (in_phase 3 s ready us ≡ c)
unfolding in_phase grown
sorted_in ends = (refl, refl, refl)
sorted_in (first {u = u} e h) = let r = sorted_in h in rw e (ap (λ (vs : List UnitStore). u ∷ vs) r.0, r.1, r.2)
sorted_in (second {u = u} e h) = let r = sorted_in h in rw e (r.0, ap (λ (vs : List UnitStore). u ∷ vs) r.1, r.2)
sorted_in (third {u = u} e h) = let r = sorted_in h in rw e (r.0, r.1, ap (λ (vs : List UnitStore). u ∷ vs) r.2)

-- a list with no unit has none in any phase
pub call_phase-none : (p : ℕ) (s : List ℕ) (ready : List Extent) → call_phase p s ready [] ≡ []
unfolding call_phase in_phase
call_phase-none zero s ready = take-nil {A = UnitStore} (length (clear_units s))
call_phase-none (suc p) s ready = ap (λ (vs : List UnitStore). in_phase (suc p) s ready vs) (drop-nil {A = UnitStore} (length (clear_units s)))

-- the bytes of the one list and of the other extents
abbrev pub After : (ready : List Extent) (a : List UnitStore) (later : List Extent) → Type 0
After ready a later = (x : ℕ) → covers later x ≡ (covers (extents a) x || covers ready x)

pub after-join : (ready : List Extent) (u : UnitStore) (a : List UnitStore) (later : List Extent) → After (join u ready) a later → After ready (u ∷ a) later
unfolding extents
after-join ready u a later h x =
    h x ∙ ap (λ (b : Bool). covers (extents a) x || b) (covers-join u ready x)
    ∙ sym (or_assoc (covers (extents a) x) (holds u x) (covers ready x)) ∙ ap (λ (b : Bool). b || covers ready x) (or_comm (covers (extents a) x) (holds u x) ∙ sym (covers-join u (extents a) x))

-- what is sorted after a list, after the bytes that it adds to phase 1
pub sorted_then : {s : List ℕ} {ready : List Extent} {us a b c : List UnitStore} → Sorted s ready us a b c
    → (later : List Extent) × After ready a later
    × ((vs a' b' c' : List UnitStore) → Sorted s later vs a' b' c' → Sorted s ready (us ++ vs) (a ++ a') (b ++ b') (c ++ c'))
unfolding extents covers
sorted_then {ready = ready} ends = (ready, λ x. refl, λ vs a' b' c' h. h)
sorted_then {ready = ready} (first {u = u} {a = a} e h) = let r = sorted_then h in (r.0, after-join ready u a r.0 r.1, λ vs a' b' c' k. first e (r.2 vs a' b' c' k))
sorted_then (second e h) = let r = sorted_then h in (r.0, r.1, λ vs a' b' c' k. second e (r.2 vs a' b' c' k))
sorted_then (third e h) = let r = sorted_then h in (r.0, r.1, λ vs a' b' c' k. third e (r.2 vs a' b' c' k))

-- one list after the other
pub sorted_append : {s : List ℕ} {ready : List Extent} {us vs a b c a' b' c' : List UnitStore} → Sorted s ready us a b c
    → ((later : List Extent) → After ready a later → Sorted s later vs a' b' c') → Sorted s ready (us ++ vs) (a ++ a') (b ++ b') (c ++ c')
sorted_append h k = let r = sorted_then h in r.2 _ _ _ _ (k r.0 r.1)

-- where the machinery has the parts, it has the list
pub sorted_like : {C : ℕ} {s : List ℕ} {ready : List Extent} {us a b c : List UnitStore} {ra la fa : List Store} → Sorted s ready us a b c → Like C a ra → Like C b la → Like C c fa
    → (vs : List Store) × Like C us vs
sorted_like ends none none none = ([], none)
sorted_like (first e h) (also {v = v} t d k) hb hc = let r = sorted_like h k hb hc in (v ∷ r.0, also t d r.1)
sorted_like (second e h) ha (also {v = v} t d k) hc = let r = sorted_like h ha k hc in (v ∷ r.0, also t d r.1)
sorted_like (third e h) ha hb (also {v = v} t d k) = let r = sorted_like h ha hb k in (v ∷ r.0, also t d r.1)

-- ---- bytes and counts
pub sorted_fill : (s : List ℕ) (ready : List Extent) (at : ℕ) (bs : List ℕ) → Sorted s ready (fill at bs) (fill at bs) [] []
unfolding fill phase_of
sorted_fill s ready at [] = ends
sorted_fill s ready at (b ∷ bs) = first refl (sorted_fill s (join (byte at b) ready) (suc at) bs)

pub rises : (s : List ℕ) (ready : List Extent) (w a v : ℕ) → number w s a < v → phase_of s ready (count w a v) ≡ 1
unfolding phase_of
rises s ready w a v h = if_yes (ltb (number w s a) v) 1 3 (lt-ltb _ _ h)

pub falls : (s : List ℕ) (ready : List Extent) (w a v : ℕ) → v ≤ number w s a → phase_of s ready (count w a v) ≡ 3
unfolding phase_of
falls s ready w a v h = if_no (ltb (number w s a) v) 1 3 (le-ltb _ _ h)

-- ---- entries: whether a byte of them is ready
pub entry_new : (s : List ℕ) (ready : List Extent) (a v : ℕ) → covers ready a ≡ true → Sorted s ready (entry a v ∷ []) (entry a v ∷ []) [] []
unfolding phase_of
entry_new s ready a v h = first (if_yes (meets ready a 8) 1 2 (meets_here ready a 8 a (omega arith) (omega arith) h)) ends

pub entry_old : (s : List ℕ) (ready : List Extent) (a v : ℕ) → ((z : ℕ) → a ≤ z → z < a + 8 → covers ready z ≡ true → ⊥) → Sorted s ready (entry a v ∷ []) [] (entry a v ∷ []) []
unfolding phase_of
entry_old s ready a v h = second (if_no (meets ready a 8) 1 2 (meets-none ready a 8 h)) ends
