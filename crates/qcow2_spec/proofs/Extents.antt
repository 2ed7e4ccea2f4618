-- The extents of a list cover the bytes that its units store to, and no others; so epochs that lie apart are brought by them. Assumes nothing.
use Rattle.std.specs.Prelude.{if◌then◌else◌}
use Prim.Native.Nat.{ℕ, zero, suc, ◌+◌, ◌≤◌, ◌<◌}
use native.Mathlib.Decide.{dec_lt}
use native.Mathlib.Omega.{arith}
use mathlib.Core.Path.{◌≡◌, refl, sym, ap, ◌∙◌}
use mathlib.Core.Logic.{◌⊎◌, inl, inr}
use mathlib.Core.Bool.{Bool, true, false, ◌&&◌, ◌||◌, or_assoc}
use mathlib.Core.Bool.{or-false as or-none}
use mathlib.Core.List.{List, [], ◌∷◌, ◌++◌}
use lib.Dec.{leb, ltb, eqb}
use lib.ListN.{get_or, take}
use borrow.Author.Tests.{leb-true, leb-false, ltb-true, ltb-false, eqb-true, le-leb, lt-leb, lt-ltb, le-ltb}
use Rattle.choice.proofs.Tests.{true-not-false, if_elim, and-true, or-false, false-or, two_ways}
use Rattle.units.specs.Units.{UnitStore, byte, entry, count, apply, apply_all}
use Rattle.units.proofs.Laws.{apply_all_append}
use Rattle.qcow2_spec.specs.Flush.{joined}
use Rattle.qcow2_spec.specs.Steps.{Extent, join, extents, covers, extents_in, brought}
use Rattle.qcow2_spec.proofs.Sectors.{spot, wide, apply_out, each_applied}

-- ---- what an extent covers
-- byte x is one of n from a on
abbrev among : (a n x : ℕ) → Bool
among a n x = leb a x && ltb x (a + n)

-- a byte and those after it
among_next : (a n x : ℕ) → among a (suc n) x ≡ (among a 1 x || among (suc a) n x)
among_next a n x = go (dec_lt x a) (dec_lt a x)
  where
    go : Dec (x < a) → Dec (a < x) → among a (suc n) x ≡ (among a 1 x || among (suc a) n x)
    go (yes h) k = rw (lt-leb a x h, lt-leb (suc a) x (omega arith)) refl
    go (no h) (yes k) =
        let e : a + suc n ≡ suc a + n = omega arith in
        rw (le-leb a x (omega arith), le-leb (suc a) x k, le-ltb x (a + 1) (omega arith)) (ap (ltb x) e)
    go (no h) (no k) = rw (le-leb a x (omega arith), lt-ltb x (a + suc n) (omega arith), lt-ltb x (a + 1) (omega arith)) refl

among_out : (a n x : ℕ) → among a n x ≡ false → (x < a) ⊎ (a + n ≤ x)
among_out a n x h = go (two_ways (leb a x))
  where
    go : (leb a x ≡ true) ⊎ (leb a x ≡ false) → (x < a) ⊎ (a + n ≤ x)
    go (inl e) = inr (ltb-false _ _ (rw e at h))
    go (inr e) = inl (leb-false _ _ e)

-- byte x is one of the unit's
abbrev pub holds : UnitStore → ℕ → Bool
holds u x = among (spot u) (wide u) x

pub holds_in : (u : UnitStore) (x : ℕ) → holds u x ≡ true → (spot u ≤ x) × (x < spot u + wide u)
holds_in u x h = let p = and-true (leb (spot u) x) _ h in (leb-true _ _ p.0, ltb-true _ _ p.1)

pub covers-join : (u : UnitStore) (ys : List Extent) (x : ℕ) → covers (join u ys) x ≡ (holds u x || covers ys x)
unfolding join covers spot wide
covers-join (byte a v) [] x = refl
covers-join (byte a v) (y ∷ ys) x =
    if_elim (λ (zs : List Extent). covers zs x ≡ (among a 1 x || covers (y ∷ ys) x)) (y.fills && eqb (suc a) y.at) _ _
    (λ e. let q : suc a ≡ y.at = eqb-true _ _ (and-true y.fills _ e).1 in
    ap (λ (b : Bool). b || covers ys x) (among_next a y.len x ∙ ap (λ (z : ℕ). among a 1 x || among z y.len x) q) ∙ or_assoc (among a 1 x) _ _)
    (λ e. refl)
covers-join (entry a v) ys x = refl
covers-join (count w a v) ys x = refl

-- the bytes of a list of one unit
pub covers_one : (u : UnitStore) (x : ℕ) → covers (extents (u ∷ [])) x ≡ true → (spot u ≤ x) × (x < spot u + wide u)
unfolding extents covers
covers_one u x h = holds_in u x (sym (or-none (holds u x)) ∙ sym (covers-join u [] x) ∙ h)

pub covers_append : (ys zs : List Extent) (x : ℕ) → covers (ys ++ zs) x ≡ (covers ys x || covers zs x)
unfolding covers
covers_append [] zs x = refl
covers_append (y ∷ ys) zs x = ap (λ (b : Bool). among y.at y.len x || b) (covers_append ys zs x) ∙ sym (or_assoc (among y.at y.len x) _ _)

-- ---- a byte that no extent covers stays
uncovered : (us : List UnitStore) (s : List ℕ) (x : ℕ) → covers (extents us) x ≡ false → get_or (apply_all us s) x 0 ≡ get_or s x 0
unfolding extents apply_all
uncovered [] s x h = refl
uncovered (u ∷ us) s x h =
    let p = or-false (holds u x) _ (sym (covers-join u (extents us) x) ∙ h) in
    uncovered us (apply u s) x p.1 ∙ apply_out u s x (among_out (spot u) (wide u) x p.0)

uncovered_in : (es : List (List UnitStore)) (s : List ℕ) (x : ℕ) → covers (extents_in es) x ≡ false → get_or (apply_all (joined es) s) x 0 ≡ get_or s x 0
unfolding extents_in joined apply_all
uncovered_in [] s x h = refl
uncovered_in (us ∷ es) s x h =
    let p = or-false (covers (extents us) x) _ (sym (covers_append (extents us) (extents_in es) x) ∙ h) in
    rw apply_all_append (uncovered_in es (apply_all us s) x p.1 ∙ uncovered us s x p.0)

-- ---- epochs that lie apart
-- no byte is stored by both lists, by this one and one of those, in two of those
abbrev pub Disjoint : (us vs : List UnitStore) → Type 0
Disjoint us vs = (x : ℕ) → covers (extents us) x ≡ true → covers (extents vs) x ≡ true → ⊥

unfoldable pub Beside : List UnitStore → List (List UnitStore) → Type 0
Beside us [] = Unit {0}
Beside us (vs ∷ es) = Disjoint us vs × Beside us es

unfoldable pub Apart : List (List UnitStore) → Type 0
Apart [] = Unit {0}
Apart (us ∷ es) = Beside us es × Apart es

-- what stores nothing
pub beside_none : (es : List (List UnitStore)) → Beside [] es
unfolding Beside extents covers
beside_none [] = tt
beside_none (vs ∷ es) = ((λ x p q. true-not-false p refl), beside_none es)

beside_in : (us : List UnitStore) (es : List (List UnitStore)) → Beside us es → (x : ℕ) → covers (extents us) x ≡ true → covers (extents_in es) x ≡ false
unfolding Beside extents_in covers
beside_in us [] k x h = refl
beside_in us (vs ∷ es) k x h = covers_append (extents vs) (extents_in es) x ∙ false-or (covers (extents vs) x) _ (go (two_ways (covers (extents vs) x))) (beside_in us es k.1 x h)
  where
    go : (covers (extents vs) x ≡ true) ⊎ (covers (extents vs) x ≡ false) → covers (extents vs) x ≡ false
    go (inl e) = absurd (k.0 x h e)
    go (inr e) = e

-- then a byte of the first ones is what the finished image has there
brought-byte : (es : List (List UnitStore)) (s : List ℕ) → Apart es → (e x : ℕ)
    → (if covers (extents_in (take e es)) x then get_or (apply_all (joined es) s) x 0 else get_or s x 0) ≡ get_or (apply_all (joined (take e es)) s) x 0
unfolding Apart covers extents_in joined apply_all
brought-byte [] s k zero x = refl
brought-byte [] s k (suc e) x = refl
brought-byte (us ∷ es) s k zero x = refl
brought-byte (us ∷ es) s k (suc e) x =
    rw (covers_append (extents us) (extents_in (take e es)) x, apply_all_append us (joined es) s, apply_all_append us (joined (take e es)) s)
    (go (covers (extents us) x) refl (brought-byte es (apply_all us s) k.1 e x))
  where
    t : List ℕ
    t = apply_all us s

    old : Bool
    old = covers (extents_in (take e es)) x

    go : (b : Bool) → covers (extents us) x ≡ b → (if old then get_or (apply_all (joined es) t) x 0 else get_or t x 0) ≡ get_or (apply_all (joined (take e es)) t) x 0
        → (if b || old then get_or (apply_all (joined es) t) x 0 else get_or s x 0) ≡ get_or (apply_all (joined (take e es)) t) x 0
    go true q r = if_elim (λ (y : ℕ). get_or (apply_all (joined es) t) x 0 ≡ y) old _ _ (λ z. refl) (λ z. uncovered_in es t x (beside_in us es k.0 x q)) ∙ r
    go false q r = ap (λ (y : ℕ). if old then get_or (apply_all (joined es) t) x 0 else y) (sym (uncovered us s x q)) ∙ r

pub brought-apart : (es : List (List UnitStore)) (s : List ℕ) → Apart es → (e : ℕ) → apply_all (joined (take e es)) s ≡ brought (extents_in (take e es)) s (apply_all (joined es) s)
unfolding brought
brought-apart es s k e = sym (each_applied _ (joined (take e es)) s (brought-byte es s k e))
