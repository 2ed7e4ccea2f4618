-- The units before the entries, with the one that clears the autoclear field: at first in the definitions, among the others in the machinery's list. They store the
-- same. Assumes nothing.
use Prim.Native.Nat.{ℕ, ◌/◌}
use mathlib.Core.Path.{◌≡◌, refl, sym, ap, ◌∙◌, subst}
use mathlib.Core.Logic.{◌⊎◌, inl, inr}
use mathlib.Core.Bool.{Bool, true, false}
use mathlib.Core.List.{List, [], ◌∷◌, ◌++◌, append_assoc, append-nil}
use Rattle.cuts.proofs.Run.{Store, apply, apply_all, apply_append, Each, none, also}
use Rattle.units.specs.Units.{UnitStore}
use Rattle.units.specs.Units.{apply as apply_u, apply_all as apply_all_u}
use Rattle.units.proofs.Laws.{apply_all_append}
use Rattle.choice.proofs.Tests.{or-true}
use Rattle.qcow2_spec.specs.Header.{cluster_size}
use Rattle.qcow2_spec.specs.Flush.{picked as picked_u}
use Rattle.qcow2_spec.specs.Steps.{extents, covers}
use Rattle.qcow2_spec.proofs.Facts.{Facts}
use Rattle.qcow2_spec.proofs.Plans.{clear, clear_store, clear-is, clear_aside}
use Rattle.qcow2_spec.proofs.Units.{Like, like_append, like_all, like_covers}
use Rattle.qcow2_spec.proofs.Units.{none as like_none}
use Rattle.qcow2_batches.proofs.Covers.{covers-units}

-- ---- picked units of two lists
-- the choices for the second list
unfoldable pub rest : (us : List UnitStore) → List Bool → List Bool
rest [] cs = cs
rest (u ∷ us) [] = []
rest (u ∷ us) (c ∷ cs) = rest us cs

unfoldable pub front : (us : List UnitStore) → List Bool → List Bool
front [] cs = []
front (u ∷ us) [] = []
front (u ∷ us) (c ∷ cs) = c ∷ front us cs

pub picked_append : (cs : List Bool) (us vs : List UnitStore) → picked_u cs (us ++ vs) ≡ picked_u (front us cs) us ++ picked_u (rest us cs) vs
unfolding picked_u rest front
picked_append cs [] vs = refl
picked_append [] (u ∷ us) vs = refl
picked_append (true ∷ cs) (u ∷ us) vs = ap (λ (ws : List UnitStore). u ∷ ws) (picked_append cs us vs)
picked_append (false ∷ cs) (u ∷ us) vs = picked_append cs us vs

-- ---- p0 and p1 of the definitions are r in the machinery
pub data Firsts (C : ℕ) : (p0 p1 : List UnitStore) → List Store → Type 0 where
  uncleared : {us : List UnitStore} {r : List Store} → Like C us r → Firsts C [] us r
  cleared : {us vs : List UnitStore} {a b : List Store} → Like C us a → Like C vs b → Firsts C (clear ∷ []) (us ++ vs) (a ++ clear_store ∷ b)

pub firsts_like : {C : ℕ} {us : List UnitStore} {r : List Store} → Firsts C [] us r → Like C us r
firsts_like (uncleared h) = h

pub firsts_more : {C : ℕ} {p0 p1 us : List UnitStore} {r vs : List Store} → Firsts C p0 p1 r → Like C us vs → Firsts C p0 (p1 ++ us) (r ++ vs)
firsts_more (uncleared h) k = uncleared (like_append h k)
firsts_more {C} {us = us} {vs = ws} (cleared {us = xs} {vs = ys} {a = a} {b = b} h h') k =
    subst (λ (l : List UnitStore). Firsts C (clear ∷ []) l ((a ++ clear_store ∷ b) ++ ws)) (sym (append_assoc xs ys us))
    (subst (λ (l : List Store). Firsts C (clear ∷ []) (xs ++ (ys ++ us)) l) (sym (append_assoc a (clear_store ∷ b) ws)) (cleared h (like_append h' k)))

pub firsts_clear : {C : ℕ} {us : List UnitStore} {r : List Store} → Like C us r → Firsts C (clear ∷ []) us (r ++ clear_store ∷ [])
firsts_clear {C} {us} {r} h = subst (λ (l : List UnitStore). Firsts C (clear ∷ []) l (r ++ clear_store ∷ [])) (append-nil us) (cleared h like_none)

pub firsts_all : (s : List ℕ) (f : Facts s) {p0 p1 : List UnitStore} {r : List Store} → Firsts (cluster_size s) p0 p1 r → (t : List ℕ) → apply_all_u p1 (apply_all_u p0 t) ≡ apply_all (cluster_size s) r t
unfolding apply_all_u apply_all
firsts_all s f (uncleared h) t = like_all h t
firsts_all s f (cleared {us = us} {vs = vs} {a = a} {b = b} h k) t =
    apply_all_append us vs (apply_u clear t) ∙ ap (λ (x : List ℕ). apply_all_u vs x) (clear_aside s f h t ∙ clear-is (cluster_size s) _ ∙ ap (apply (cluster_size s) clear_store) (like_all h t)) ∙ like_all k _
    ∙ sym (apply_append (cluster_size s) a (clear_store ∷ b) t)

-- ---- which bytes they store to
each_left : {P : Store → Type 0} (us vs : List Store) → Each P (us ++ vs) → Each P us
each_left [] vs h = none
each_left (u ∷ us) vs (also p h) = also p (each_left us vs h)

each_right : {P : Store → Type 0} (us vs : List Store) → Each P (us ++ vs) → Each P vs
each_right [] vs h = h
each_right (u ∷ us) vs (also p h) = each_right us vs h

pub firsts_covers : {C : ℕ} {p0 p1 : List UnitStore} {r : List Store} (P : ℕ → Type 0) → Firsts C p0 p1 r → Each (λ (v : Store). P v.w) r
    → (x : ℕ) → covers (extents p1) x ≡ true → P (x / C)
firsts_covers P (uncleared h) e x q = like_covers P h e x q
firsts_covers {C} P (cleared {us = us} {vs = vs} {a = a} {b = b} h k) e x q = go (each_right a (clear_store ∷ b) e) (or-true (covers (extents us) x) _ (sym (covers-units us vs x) ∙ q))
  where
    go : Each (λ (v : Store). P v.w) (clear_store ∷ b) → (covers (extents us) x ≡ true) ⊎ (covers (extents vs) x ≡ true) → P (x / C)
    go w (inl y) = like_covers P h (each_left a (clear_store ∷ b) e) x y
    go (also p w) (inr y) = like_covers P k w x y
