-- Numbers of whole bytes against 0, and a search that says only whether there is a number to find. Assumes nothing.
use Prim.Native.Nat.{ℕ, ◌+◌, ◌*◌, ◌≤◌}
use native.Mathlib.Nat.{zero-add, zero-mul, mul-le-mul_left}
use native.Mathlib.Omega.{arith}
use mathlib.Core.Path.{◌≡◌, sym, ap₂, ◌∙◌}
use mathlib.Core.Bool.{Bool, ◌||◌}
use Rattle.std.proofs.Math.Bool.{or_comm}
use mathlib.Core.List.{List}
use lib.Bits.{bit_or, or_add_and, and_le_l, and_le_r}
use lib.Dec.{eqb}
use Rattle.widths.specs.Width.{be}
use Rattle.widths.proofs.Cells.{Small}
use Rattle.packed_zerowords.specs.Found.{some}
use Rattle.packed.specs.Packed.{packed, zero_at}
use Rattle.packed.specs.Lanes.{lanes, bytes_at}
use Rattle.packed.proofs.Laws.{eqb_same, found-next}
use Rattle.packed.proofs.Turned.{same16, same32, same64, whole16, whole32, whole64}

-- one number more, as a loop finds it
pub some_next : (p : ℕ → Bool) (i : ℕ) {t u : Bool} → t ≡ some p i → u ≡ p i → (t || u) ≡ some p (i + 1)
some_next p i {t} {u} e f = or_comm t u ∙ ap₂ ◌||◌ f e ∙ sym (rw (zero-add, zero-add) at (found-next p 0 i))

-- two halves of a number
or-zero : (a b m : ℕ) → 1 ≤ m → eqb (bit_or a b) 0 ≡ eqb (a + b * m) 0
or-zero a b m h = eqb_same (bit_or a b) 0 (a + b * m) 0 both either
  where
    both : bit_or a b ≡ 0 → a + b * m ≡ 0
    both z =
        let e : b ≡ 0 = omega (arith, or_add_and a b, and_le_l a b) in
        rw e (omega (arith, or_add_and a b, and_le_r a b, zero-mul m))

    either : a + b * m ≡ 0 → bit_or a b ≡ 0
    either z = omega (arith, or_add_and a b, mul-le-mul_left b h)

-- ---- number i by its bytes turned round
module _ (l : List ℕ) (b : Small l) (i : ℕ) where
  zero_is : (o k t : ℕ) → packed o l i ≡ be k l (k * i) → (be k l (k * i) ≡ 0 → t ≡ 0) × (t ≡ 0 → be k l (k * i) ≡ 0) → eqb t 0 ≡ zero_at o l i
  unfolding zero_at
  zero_is o k t p s = rw p (eqb_same t 0 (be k l (k * i)) 0 s.1 s.0)

  pub zero16 : eqb (lanes 2 (bytes_at l (2 * i))) 0 ≡ zero_at 4 l i
  zero16 = zero_is 4 2 (lanes 2 (bytes_at l (2 * i))) (whole16 l b i) (same16 l b (2 * i) 0 (omega arith))

  pub zero32 : eqb (lanes 4 (bytes_at l (4 * i))) 0 ≡ zero_at 5 l i
  zero32 = zero_is 5 4 (lanes 4 (bytes_at l (4 * i))) (whole32 l b i) (same32 l b (4 * i) 0 (omega arith))

  pub zero64 : eqb (bit_or (lanes 4 (bytes_at l (8 * i))) (lanes 4 (bytes_at l (8 * i + 4)))) 0 ≡ zero_at 6 l i
  zero64 =
      let x = lanes 4 (bytes_at l (8 * i)) in
      let y = lanes 4 (bytes_at l (8 * i + 4)) in
      or-zero x y 4294967296 (omega arith) ∙ zero_is 6 8 (x + y * 4294967296) (whole64 l b i) (same64 l b (8 * i) 0 (omega arith))
