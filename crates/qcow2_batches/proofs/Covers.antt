-- Which bytes lists of units store to: of two lists together, of those that meet, of those that do not clash. Assumes nothing.
use Rattle.std.specs.Prelude.{if◌then◌else◌}
use Prim.Native.Nat.{ℕ, zero, suc, ◌+◌, ◌≤◌, ◌<◌}
use native.Mathlib.Nat.{le_refl}
use native.Mathlib.Decide.{ℕ_discrete}
use native.Mathlib.Omega.{arith}
use mathlib.Core.Path.{◌≡◌, refl, sym, ap, ap₂, ◌∙◌}
use mathlib.Core.Logic.{◌⊎◌, inl, inr}
use mathlib.Core.Bool.{Bool, true, false, ◌&&◌, ◌||◌, or_assoc}
use mathlib.Core.List.{List, [], ◌∷◌, ◌++◌}
use lib.Dec.{leb, ltb, eqb}
use borrow.Author.Tests.{leb-true, ltb-true, le-leb, lt-ltb}
use Rattle.choice.proofs.Tests.{true-not-false, and-true, or-false, false-or, or-true, two_ways}
use Rattle.units.specs.Units.{UnitStore, byte, entry, count}
use Rattle.qcow2_spec.specs.Steps.{Extent, join, extents, covers}
use Rattle.qcow2_spec.proofs.Sectors.{spot, wide}
use Rattle.qcow2_spec.proofs.Extents.{holds, covers-join}
use Rattle.qcow2_batches.specs.Batch.{meets, clash, phase_of, grown, in_phase}

pub true-or : (a b : Bool) → a ≡ true → (a || b) ≡ true
true-or true b e = refl
true-or false b e = absurd (true-not-false e refl)

pub or_right : (a b : Bool) → b ≡ true → (a || b) ≡ true
or_right true b e = refl
or_right false b e = e

pub or_exchange : (a b c : Bool) → (a || (b || c)) ≡ (b || (a || c))
or_exchange true true c = refl
or_exchange true false c = refl
or_exchange false b c = refl

-- a unit covers its first byte
pub covers-first : (u : UnitStore) (us : List UnitStore) → 0 < wide u → covers (extents (u ∷ us)) (spot u) ≡ true
unfolding extents
covers-first u us h = covers-join u (extents us) (spot u) ∙ true-or (holds u (spot u)) _ (rw (le-leb (spot u) (spot u) (le_refl _), lt-ltb (spot u) (spot u + wide u) (omega arith)) refl)

-- two lists together
pub covers-units : (us vs : List UnitStore) (x : ℕ) → covers (extents (us ++ vs)) x ≡ (covers (extents us) x || covers (extents vs) x)
unfolding extents covers
covers-units [] vs x = refl
covers-units (u ∷ us) vs x =
    covers-join u (extents (us ++ vs)) x ∙ ap (λ (b : Bool). holds u x || b) (covers-units us vs x) ∙ sym (or_assoc (holds u x) (covers (extents us) x) (covers (extents vs) x))
    ∙ ap (λ (b : Bool). b || covers (extents vs) x) (sym (covers-join u (extents us) x))

pub covers-left : (us vs : List UnitStore) (x : ℕ) → covers (extents us) x ≡ true → covers (extents (us ++ vs)) x ≡ true
covers-left us vs x h = covers-units us vs x ∙ true-or (covers (extents us) x) _ h

pub covers-right : (us vs : List UnitStore) (x : ℕ) → covers (extents vs) x ≡ true → covers (extents (us ++ vs)) x ≡ true
covers-right us vs x h = covers-units us vs x ∙ or_right (covers (extents us) x) _ h

-- ---- extents that meet
pub meets-some : (ys : List Extent) (at len : ℕ) → meets ys at len ≡ true → (x : ℕ) × (at ≤ x) × (x < at + len) × (covers ys x ≡ true)
unfolding meets
meets-some ys at zero h = absurd (true-not-false h refl)
meets-some ys at (suc len) h = go (or-true (covers ys at) (meets ys (suc at) len) h) (meets-some ys (suc at) len)
  where
    go : (covers ys at ≡ true) ⊎ (meets ys (suc at) len ≡ true) → (meets ys (suc at) len ≡ true → (x : ℕ) × (suc at ≤ x) × (x < suc at + len) × (covers ys x ≡ true))
        → (x : ℕ) × (at ≤ x) × (x < at + suc len) × (covers ys x ≡ true)
    go (inl e) r = (at, le_refl at, omega arith, e)
    go (inr e) r = let w = r e in (w.0, omega (arith, w.1), omega (arith, w.2), w.3)

pub meets_here : (ys : List Extent) (at len x : ℕ) → at ≤ x → x < at + len → covers ys x ≡ true → meets ys at len ≡ true
unfolding meets
meets_here ys at zero x l h e = absurd (omega arith)
meets_here ys at (suc len) x l h e = go (ℕ_discrete x at) (λ k. meets_here ys (suc at) len x k (omega arith) e)
  where
    go : Dec (x ≡ at) → (suc at ≤ x → meets ys (suc at) len ≡ true) → (covers ys at || meets ys (suc at) len) ≡ true
    go (yes q) r = true-or (covers ys at) _ (ap (covers ys) (sym q) ∙ e)
    go (no q) r = or_right (covers ys at) _ (r (omega arith))

pub meets-none : (ys : List Extent) (at len : ℕ) → ((x : ℕ) → at ≤ x → x < at + len → covers ys x ≡ true → ⊥) → meets ys at len ≡ false
meets-none ys at len h = go (two_ways (meets ys at len))
  where
    go : (meets ys at len ≡ true) ⊎ (meets ys at len ≡ false) → meets ys at len ≡ false
    go (inr e) = e
    go (inl e) = let w = meets-some ys at len e in absurd (h w.0 w.1 w.2 w.3)

-- those that do not clash have no byte in common
pub clash-none : (ys zs : List Extent) → clash ys zs ≡ false → (x : ℕ) → covers ys x ≡ true → covers zs x ≡ true → ⊥
unfolding clash covers
clash-none ys [] h x p q = true-not-false q refl
clash-none ys (z ∷ zs) h x p q =
    let apart = or-false (meets ys z.at z.len) (clash ys zs) h in go apart.0 (or-true (leb z.at x && ltb x (z.at + z.len)) (covers zs x) q) (clash-none ys zs apart.1 x p)
  where
    go : meets ys z.at z.len ≡ false → ((leb z.at x && ltb x (z.at + z.len)) ≡ true) ⊎ (covers zs x ≡ true) → (covers zs x ≡ true → ⊥) → ⊥
    go n (inl e) r =
        let w = and-true (leb z.at x) _ e in
        true-not-false (meets_here ys z.at z.len x (leb-true _ _ w.0) (ltb-true _ _ w.1) p) n
    go n (inr e) r = r e

-- and those with none in common do not clash
pub clash-apart : (ys zs : List Extent) → ((x : ℕ) → covers ys x ≡ true → covers zs x ≡ true → ⊥) → clash ys zs ≡ false
unfolding clash covers
clash-apart ys [] h = refl
clash-apart ys (z ∷ zs) h =
    false-or (meets ys z.at z.len) (clash ys zs)
    (meets-none ys z.at z.len (λ x l m p. h x p (true-or (leb z.at x && ltb x (z.at + z.len)) _ (rw (le-leb z.at x l, lt-ltb x (z.at + z.len) m)))))
    (clash-apart ys zs (λ x p q. h x p (or_right (leb z.at x && ltb x (z.at + z.len)) _ q)))

-- ---- extents of the same bytes
abbrev pub Alike : (ys zs : List Extent) → Type 0
Alike ys zs = (x : ℕ) → covers ys x ≡ covers zs x

pub meets_alike : (ys zs : List Extent) → Alike ys zs → (at len : ℕ) → meets ys at len ≡ meets zs at len
unfolding meets
meets_alike ys zs h at zero = refl
meets_alike ys zs h at (suc len) = ap₂ (λ (a b : Bool). a || b) (h at) (meets_alike ys zs h (suc at) len)

pub phase_alike : (s : List ℕ) (ys zs : List Extent) → Alike ys zs → (u : UnitStore) → phase_of s ys u ≡ phase_of s zs u
unfolding phase_of
phase_alike s ys zs h (byte a v) = refl
phase_alike s ys zs h (entry a v) = ap (λ (b : Bool). if b then 1 else 2) (meets_alike ys zs h a 8)
phase_alike s ys zs h (count w a v) = refl

pub join_alike : (u : UnitStore) (ys zs : List Extent) → Alike ys zs → Alike (join u ys) (join u zs)
join_alike u ys zs h x = covers-join u ys x ∙ ap (λ (b : Bool). holds u x || b) (h x) ∙ sym (covers-join u zs x)

pub in_alike : (p : ℕ) (s : List ℕ) (ys zs : List Extent) → Alike ys zs → (us : List UnitStore) → in_phase p s ys us ≡ in_phase p s zs us
unfolding in_phase grown
in_alike p s ys zs h [] = refl
in_alike p s ys zs h (u ∷ us) = rw (phase_alike s ys zs h u) (ap (λ (vs : List UnitStore). (if eqb (phase_of s zs u) p then u ∷ [] else []) ++ vs)
    (rest (eqb (phase_of s zs u) 1) (in_alike p s (join u ys) (join u zs) (join_alike u ys zs h) us) (in_alike p s ys zs h us)))
  where
    rest : (b : Bool) → in_phase p s (join u ys) us ≡ in_phase p s (join u zs) us → in_phase p s ys us ≡ in_phase p s zs us → in_phase p s (if b then join u ys else ys) us ≡ in_phase p s (if b then join u zs else zs) us
    rest true a b = a
    rest false a b = b
