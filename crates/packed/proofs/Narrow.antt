-- Numbers that lie in one byte. Assumes nothing.
use Prim.Native.Nat.{ℕ, zero, suc, ◌+◌, ◌-◌, ◌*◌, ◌/◌, ◌%◌, ◌^◌, ◌≤◌, ◌<◌}
use native.Mathlib.Omega.{arith}
use mathlib.Core.Path.{◌≡◌, refl, ap₂, ◌∙◌}
use mathlib.Core.List.{List}
use lib.ListN.{get_or}
use Rattle.widths.specs.Width.{field, number, span}
use Rattle.widths.proofs.Cells.{Small}
use Rattle.widths.proofs.Whole.{number-narrow, number-whole, be1}
use Rattle.packed.specs.Packed.{packed}
use Rattle.packed.specs.Lanes.{parts}

-- number i of byte b is one of byte b
place : (o : ℕ) → o ≤ 3 → (b i : ℕ) → i < 2 ^ (3 - o) → (2 ^ o * (2 ^ (3 - o) * b + i) / 8 ≡ b) × (2 ^ o * (2 ^ (3 - o) * b + i) % 8 ≡ 2 ^ o * i)
place zero h b i l = (omega arith, omega arith)
place (suc zero) h b i l = (omega arith, omega arith)
place (suc (suc zero)) h b i l = (omega arith, omega arith)
place (suc (suc (suc zero))) h b i l = (omega arith, omega arith)
place (suc (suc (suc (suc o)))) h b i l = absurd (omega arith)

pub packed-parts : (o : ℕ) → o ≤ 3 → (l : List ℕ) (b i : ℕ) → i < 2 ^ (3 - o) → packed o l (2 ^ (3 - o) * b + i) ≡ parts o (get_or l b 0) i
unfolding packed parts
packed-parts o h l b i s =
    let p = place o h b i s in
    number-narrow o h l (2 ^ o * (2 ^ (3 - o) * b + i)) ∙ ap₂ (λ (x y : ℕ). field (2 ^ o) x (get_or l y 0)) p.1 p.0

-- which is small
pub packed-most : (o : ℕ) → o ≤ 2 → (l : List ℕ) (i : ℕ) → packed o l i ≤ 127
unfolding packed number field
packed-most zero h l i = omega arith
packed-most (suc zero) h l i = omega arith
packed-most (suc (suc zero)) h l i = omega arith
packed-most (suc (suc (suc o))) h l i = absurd (omega arith)

-- a number of 8 bits is a byte
pub packed8 : (l : List ℕ) → Small l → (j : ℕ) → packed 3 l j ≡ get_or l j 0
unfolding packed span
packed8 l b j =
    let e : 8 * j / 8 ≡ j = omega arith in
    number-whole 8 1 l (8 * j) refl refl (omega arith) (rw (e, be1) (omega (arith, b j))) ∙ rw (e) (be1 l j)
