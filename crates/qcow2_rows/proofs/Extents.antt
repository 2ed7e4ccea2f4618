-- The extents of units that come one after the other. Assumes nothing.
use Rattle.std.specs.Prelude.{if◌then◌else◌}
use Prim.Native.Nat.{ℕ, suc, ◌<◌}
use native.Mathlib.Omega.{arith}
use mathlib.Core.Path.{◌≡◌, refl, ap, ◌∙◌}
use mathlib.Core.Bool.{Bool, true, false, ◌&&◌}
use mathlib.Core.List.{List, [], ◌∷◌, ◌++◌}
use lib.Dec.{eqb}
use lib.ListN.{length}
use borrow.Author.Tests.{eq-eqb}
use Rattle.units.specs.Units.{UnitStore, byte, entry, count, fill}
use Rattle.qcow2_spec.specs.Steps.{Extent, filled, whole, join, extents}

-- no byte joins these: there are none, or the first is an entry's or a count's
pub data Apart : List Extent → Type 0 where
  none : Apart []
  next : {a n : ℕ} {xs : List Extent} → Apart (whole a n ∷ xs)

join_append : (u : UnitStore) (xs : List Extent) {ys : List Extent} → Apart ys → join u (xs ++ ys) ≡ join u xs ++ ys
unfolding join
join_append (byte a v) [] none = refl
join_append (byte a v) [] next = refl
join_append (byte a v) (x ∷ xs) {ys} h = go (x.fills && eqb (suc a) x.at)
  where
    go : (b : Bool) → (if b then filled a (suc x.len) ∷ xs ++ ys else filled a 1 ∷ x ∷ xs ++ ys) ≡ (if b then filled a (suc x.len) ∷ xs else filled a 1 ∷ x ∷ xs) ++ ys
    go true = refl
    go false = refl
join_append (entry a v) xs h = refl
join_append (count w a v) xs h = refl

extents_append : (us vs : List UnitStore) → Apart (extents vs) → extents (us ++ vs) ≡ extents us ++ extents vs
unfolding extents
extents_append [] vs h = refl
extents_append (u ∷ us) vs h = ap (join u) (extents_append us vs h) ∙ join_append u (extents us) h

-- a fill is one extent
one-fill : (a b : ℕ) (bs : List ℕ) → extents (fill a (b ∷ bs)) ≡ filled a (suc (length bs)) ∷ []
unfolding extents join fill
one-fill a b [] = refl
one-fill a b (c ∷ bs) = rw (one-fill (suc a) c bs, eq-eqb (suc a) (suc a) refl)

pub extents-fill : (a : ℕ) (bs : List ℕ) → 0 < length bs → (us : List UnitStore) → Apart (extents us) → extents (fill a bs ++ us) ≡ filled a (length bs) ∷ extents us
extents-fill a [] h us w = absurd (omega arith)
extents-fill a (b ∷ bs) h us w = extents_append (fill a (b ∷ bs)) us w ∙ ap (λ (xs : List Extent). xs ++ extents us) (one-fill a b bs)
