-- What a test that has passed or failed says. Assumes nothing.
use Rattle.std.specs.Prelude.{if◌then◌else◌}
use Prim.Native.Nat.{ℕ, suc}
use native.Mathlib.Nat.{suc-ne-zero}
use mathlib.Core.Path.{◌≡◌, refl, sym}
use mathlib.Core.Logic.{◌⊎◌, inl, inr}
use mathlib.Core.Bool.{Bool, true, false, ◌&&◌, ◌||◌}

pub true-not-false : {b : Bool} → b ≡ true → b ≡ false → ⊥
true-not-false {b} p q = let z : ◌≡◌ {A = ℕ} 0 1 = cc in suc-ne-zero 0 (sym z)

pub if_zero : (b : Bool) (k r : ℕ) → (if b then suc k else r) ≡ 0 → (b ≡ false) × (r ≡ 0)
if_zero true k r e = absurd (suc-ne-zero k e)
if_zero false k r e = (refl, e)

pub if_yes : {A : Type 0} (b : Bool) (x y : A) → b ≡ true → (if b then x else y) ≡ x
if_yes true x y e = refl
if_yes false x y e = absurd (true-not-false e refl)

pub if_no : {A : Type 0} (b : Bool) (x y : A) → b ≡ false → (if b then x else y) ≡ y
if_no true x y e = absurd (true-not-false refl e)
if_no false x y e = refl

pub if_elim : {A : Type 0} (P : A → Type 0) (b : Bool) (x y : A) → (b ≡ true → P x) → (b ≡ false → P y) → P (if b then x else y)
if_elim P true x y f g = f refl
if_elim P false x y f g = g refl

pub and-true : (a b : Bool) → (a && b) ≡ true → (a ≡ true) × (b ≡ true)
and-true true b e = (refl, e)
and-true false b e = absurd (true-not-false e refl)

pub or-false : (a b : Bool) → (a || b) ≡ false → (a ≡ false) × (b ≡ false)
or-false true b e = absurd (true-not-false refl e)
or-false false b e = (refl, e)

pub false-or : (a b : Bool) → a ≡ false → b ≡ false → (a || b) ≡ false
false-or true b e f = absurd (true-not-false refl e)
false-or false b e f = f

pub or-true : (a b : Bool) → (a || b) ≡ true → (a ≡ true) ⊎ (b ≡ true)
or-true true b e = inl refl
or-true false b e = inr e

pub two_ways : (b : Bool) → (b ≡ true) ⊎ (b ≡ false)
two_ways true = inl refl
two_ways false = inr refl
