-- Figures against bits: one stretch after another, and the eight figures of a byte by two numbers.
-- Assumes nothing.
use Prim.Native.Nat.{ℕ, zero, suc, ◌+◌, ◌-◌, ◌*◌, ◌/◌, ◌%◌, ◌^◌, ◌≤◌, ◌<◌}
use native.Mathlib.Omega.{arith}
use mathlib.Core.Path.{◌≡◌, refl, sym, ◌∙◌}
use mathlib.Core.Bool.{Bool, true, false, not}
use mathlib.Core.List.{List}
use lib.Bits.{bit_and, bit_or, bit_xor, or_add_and, xor_add_and, and_le_l, and_le_r}
use lib.Dec.{ltb, eqb}
use lib.ListN.{get_or}
use borrow.Author.Tests.{ltb-true, ltb-false, eqb-true}
use Rattle.choice.proofs.Runs.{first_passed}
use Rattle.endian.specs.Big.{be16, be32, be64}
use Rattle.widths.specs.Width.{field, number}
use Rattle.widths.proofs.Whole.{number-narrow}
use Rattle.bit_figures.specs.Alike.{Alike, four}

-- ---- stretches
module _ (z b : List ℕ) where
  pub alike_none : (a e : ℕ) → e ≤ a → Alike z b a e
  alike_none a e h = record { each = λ j l u. absurd (omega arith) }

  pub alike_one : (a : ℕ) → be16 z (2 * a) ≡ number 1 b a → Alike z b a (a + 1)
  alike_one a h = record { each = λ j l u. let e : j ≡ a = omega arith in rw e h }

  pub alike_less : (a e f : ℕ) → f ≤ e → Alike z b a e → Alike z b a f
  alike_less a e f h p = record { each = λ j l u. p.each j l (omega arith) }

  pub alike_append : (a e f : ℕ) → Alike z b a e → Alike z b e f → Alike z b a f
  alike_append a e f p q = record { each = λ j l u. go j l u (ltb j e) refl }
    where
      go : (j : ℕ) → a ≤ j → j < f → (t : Bool) → ltb j e ≡ t → be16 z (2 * j) ≡ number 1 b j
      go j l u true h = p.each j l (ltb-true j e h)
      go j l u false h = q.each j (ltb-false j e h) u

-- ---- differences
pub or-none : (a b : ℕ) → bit_or a b ≡ 0 → (a ≡ 0) × (b ≡ 0)
or-none a b h = (omega (arith, or_add_and a b, and_le_r a b), omega (arith, or_add_and a b, and_le_l a b))

pub xor_none : (a b : ℕ) → bit_xor a b ≡ 0 → a ≡ b
xor_none a b h = omega (arith, xor_add_and a b, and_le_l a b, and_le_r a b)

-- ---- four figures
-- the product that spreads four bits, for each of them
pub spread_is : (x : ℕ) → x < 16 → bit_and (x * 2251816993685505 / 8) 281479271743489 ≡ four x
spread_is x h = eqb-true _ _ (go (eqb (bit_and (x * 2251816993685505 / 8) 281479271743489) (four x)) (first_passed other 0 16 x (omega arith) (omega arith) (omega arith)))
  where
    other : ℕ → Bool
    other y = not (eqb (bit_and (y * 2251816993685505 / 8) 281479271743489) (four y))

    go : (t : Bool) → not t ≡ false → t ≡ true
    go true d = refl
    go false d = sym d

be64-figures : (l : List ℕ) (at : ℕ) → be64 l at ≡ be16 l at * 2 ^ 48 + be16 l (at + 2) * 2 ^ 32 + be16 l (at + 4) * 2 ^ 16 + be16 l (at + 6)
unfolding be64 be32
be64-figures l at = let e : at + 4 + 2 ≡ at + 6 = omega arith in rw e (omega arith)

-- the weights keep the four apart
apart : (p q r s x : ℕ) → p < 65536 → q < 65536 → r < 65536 → s < 65536 → p * 2 ^ 48 + q * 2 ^ 32 + r * 2 ^ 16 + s ≡ four x
    → (p ≡ x % 2) × (q ≡ x / 2 % 2) × (r ≡ x / 4 % 2) × (s ≡ x / 8 % 2)
apart p q r s x hp hq hr hs e = (omega arith, omega arith, omega arith, omega arith)

-- what holds of each number below 8
eight : (P : ℕ → Type 0) → P 0 → P 1 → P 2 → P 3 → P 4 → P 5 → P 6 → P 7 → (d : ℕ) → d < 8 → P d
eight P a b c d e f g h zero l = a
eight P a b c d e f g h (suc zero) l = b
eight P a b c d e f g h (suc (suc zero)) l = c
eight P a b c d e f g h (suc (suc (suc zero))) l = d
eight P a b c d e f g h (suc (suc (suc (suc zero)))) l = e
eight P a b c d e f g h (suc (suc (suc (suc (suc zero))))) l = f
eight P a b c d e f g h (suc (suc (suc (suc (suc (suc zero)))))) l = g
eight P a b c d e f g h (suc (suc (suc (suc (suc (suc (suc zero))))))) l = h
eight P a b c d e f g h (suc (suc (suc (suc (suc (suc (suc (suc n)))))))) l = absurd (omega arith)

-- ---- the figures of a byte
-- its bits by its halves
lower : (x : ℕ) → (x / 2 ^ 0 % 2 ≡ x % 16 % 2) × (x / 2 ^ 1 % 2 ≡ x % 16 / 2 % 2) × (x / 2 ^ 2 % 2 ≡ x % 16 / 4 % 2) × (x / 2 ^ 3 % 2 ≡ x % 16 / 8 % 2)
lower x = (omega arith, omega arith, omega arith, omega arith)

upper : (x : ℕ) → (x / 2 ^ 4 % 2 ≡ x / 16 % 2) × (x / 2 ^ 5 % 2 ≡ x / 16 / 2 % 2) × (x / 2 ^ 6 % 2 ≡ x / 16 / 4 % 2) × (x / 2 ^ 7 % 2 ≡ x / 16 / 8 % 2)
upper x = (omega arith, omega arith, omega arith, omega arith)

bit_is : (b : List ℕ) (i d : ℕ) → d < 8 → number 1 b (8 * i + d) ≡ get_or b i 0 / 2 ^ d % 2
unfolding field
bit_is b i d h =
    let m : (8 * i + d) % 8 ≡ d = omega arith in
    let n : (8 * i + d) / 8 ≡ i = omega arith in
    number-narrow 0 (omega arith) b (8 * i + d) ∙ rw (m, n) refl

module _ (z b : List ℕ) (small : (i : ℕ) → get_or z i 0 < 256) (i : ℕ) where
  figure_small : (at : ℕ) → be16 z at < 65536
  unfolding be16
  figure_small at = omega (arith, small at, small (at + 1))

  -- four of them as one number
  parted : (at x : ℕ) → be64 z at ≡ four x
      → (be16 z at ≡ x % 2) × (be16 z (at + 2) ≡ x / 2 % 2) × (be16 z (at + 4) ≡ x / 4 % 2) × (be16 z (at + 6) ≡ x / 8 % 2)
  parted at x e =
      apart (be16 z at) (be16 z (at + 2)) (be16 z (at + 4)) (be16 z (at + 6)) x (figure_small at) (figure_small (at + 2)) (figure_small (at + 4)) (figure_small (at + 6)) (sym (be64-figures z at) ∙ e)

  pub alike_byte : be64 z (16 * i) ≡ four (get_or b i 0 % 16) → be64 z (16 * i + 8) ≡ four (get_or b i 0 / 16) → Alike z b (8 * i) (8 * i + 8)
  alike_byte low high = record { each = λ j l u. at j (j - 8 * i) (omega arith) (omega arith) }
    where
      x : ℕ
      x = get_or b i 0

      p : (be16 z (16 * i) ≡ x % 16 % 2) × (be16 z (16 * i + 2) ≡ x % 16 / 2 % 2) × (be16 z (16 * i + 4) ≡ x % 16 / 4 % 2) × (be16 z (16 * i + 6) ≡ x % 16 / 8 % 2)
      p = parted (16 * i) (x % 16) low

      q : (be16 z (16 * i + 8) ≡ x / 16 % 2) × (be16 z (16 * i + 8 + 2) ≡ x / 16 / 2 % 2) × (be16 z (16 * i + 8 + 4) ≡ x / 16 / 4 % 2) × (be16 z (16 * i + 8 + 6) ≡ x / 16 / 8 % 2)
      q = parted (16 * i + 8) (x / 16) high

      moved : (d n v w : ℕ) → 2 * (8 * i + d) ≡ n → v ≡ w → be16 z n ≡ w → be16 z (2 * (8 * i + d)) ≡ v
      moved d n v w e f h = rw (e, f) h

      all : (d : ℕ) → d < 8 → be16 z (2 * (8 * i + d)) ≡ x / 2 ^ d % 2
      all =
          eight (λ (d : ℕ). be16 z (2 * (8 * i + d)) ≡ x / 2 ^ d % 2)
          (moved 0 (16 * i) _ _ (omega arith) (lower x).0 p.0)
          (moved 1 (16 * i + 2) _ _ (omega arith) (lower x).1 p.1)
          (moved 2 (16 * i + 4) _ _ (omega arith) (lower x).2 p.2)
          (moved 3 (16 * i + 6) _ _ (omega arith) (lower x).3 p.3)
          (moved 4 (16 * i + 8) _ _ (omega arith) (upper x).0 q.0)
          (moved 5 (16 * i + 8 + 2) _ _ (omega arith) (upper x).1 q.1)
          (moved 6 (16 * i + 8 + 4) _ _ (omega arith) (upper x).2 q.2)
          (moved 7 (16 * i + 8 + 6) _ _ (omega arith) (upper x).3 q.3)

      at : (j d : ℕ) → j ≡ 8 * i + d → d < 8 → be16 z (2 * j) ≡ number 1 b j
      at j d e h = rw e (all d h ∙ sym (bit_is b i d h))
