-- What holds for each of the 256 bytes, by computation. Assumes nothing.
use Prim.Native.Nat.{ℕ, ◌<◌}
use native.Mathlib.Omega.{arith}
use mathlib.Core.Path.{◌≡◌, refl, sym}
use mathlib.Core.Bool.{Bool, true, false, not}
use lib.Dec.{eqb}
use borrow.Author.Tests.{eqb-true}
use Rattle.choice.specs.Pick.{first}
use Rattle.choice.proofs.Runs.{first_passed}

-- a test that fails for none
each : (p : ℕ → Bool) → first (λ x. not (p x)) 0 256 ≡ 256 → (x : ℕ) → x < 256 → p x ≡ true
each p e x h = go (p x) (first_passed (λ y. not (p y)) 0 256 x (omega (arith, e)) (omega arith) (omega arith))
  where
    go : (t : Bool) → not t ≡ false → t ≡ true
    go true d = refl
    go false d = sym d

-- numbers that differ for none
pub each-byte : (f g : ℕ → ℕ) → first (λ x. not (eqb (f x) (g x))) 0 256 ≡ 256 → (x : ℕ) → x < 256 → f x ≡ g x
each-byte f g e x h = eqb-true (f x) (g x) (each (λ y. eqb (f y) (g y)) e x h)

abbrev pub alike : Bool → Bool → Bool
alike true t = t
alike false t = not t

-- tests that differ for none
pub each_test : (f g : ℕ → Bool) → first (λ x. not (alike (f x) (g x))) 0 256 ≡ 256 → (x : ℕ) → x < 256 → f x ≡ g x
each_test f g e x h = same (f x) (g x) (each (λ y. alike (f y) (g y)) e x h)
  where
    same : (s t : Bool) → alike s t ≡ true → s ≡ t
    same true t d = sym d
    same false true d = d
    same false false d = refl
