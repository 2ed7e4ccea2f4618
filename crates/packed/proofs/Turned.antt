-- Numbers of whole bytes, and their bytes turned round. Assumes nothing.
use Prim.Native.Nat.{ℕ, ◌+◌, ◌*◌, ◌/◌, ◌≤◌, ◌<◌}
use native.Mathlib.Nat.{add-zero, add_assoc}
use native.Mathlib.Omega.{arith}
use mathlib.Core.Path.{◌≡◌, refl, ap, ◌∙◌}
use mathlib.Core.List.{List}
use lib.ListN.{get_or}
use Rattle.endian.specs.Big.{be64}
use Rattle.widths.specs.Width.{be, span}
use Rattle.widths.proofs.Cells.{Small}
use Rattle.widths.proofs.Whole.{number-whole, be4, be8}
use Rattle.packed.specs.Packed.{packed}
use Rattle.packed.specs.Lanes.{lanes, bytes_at}

-- ---- bytes as they are loaded
module _ (l : List ℕ) (at : ℕ) where
  pub turned2 : get_or l at 0 + get_or l (at + 1) 0 * 256 ≡ lanes 2 (bytes_at l at)
  unfolding lanes
  turned2 = simp (add-zero) (omega arith)

  pub turned4 : get_or l at 0 + get_or l (at + 1) 0 * 256 + get_or l (at + 2) 0 * 65536 + get_or l (at + 3) 0 * 16777216 ≡ lanes 4 (bytes_at l at)
  unfolding lanes
  turned4 = simp (add-zero) (omega arith)

-- ---- the bytes of a figure, turned round
module _ (l : List ℕ) (b : Small l) (at f : ℕ) (h : f ≤ 1) where
  pub same16 : (be 2 l at ≡ f → lanes 2 (bytes_at l at) ≡ f * 256) × (lanes 2 (bytes_at l at) ≡ f * 256 → be 2 l at ≡ f)
  unfolding be lanes
  same16 = (λ e. omega (arith, b (at + 0), b (at + 1)), λ e. omega (arith, b (at + 0), b (at + 1)))

  pub same32 : (be 4 l at ≡ f → lanes 4 (bytes_at l at) ≡ f * 16777216) × (lanes 4 (bytes_at l at) ≡ f * 16777216 → be 4 l at ≡ f)
  unfolding be lanes
  same32 = (λ e. omega (arith, b (at + 0), b (at + 1), b (at + 2), b (at + 3)), λ e. omega (arith, b (at + 0), b (at + 1), b (at + 2), b (at + 3)))

-- of 64 bits in two halves
module _ (l : List ℕ) (b : Small l) (at : ℕ) where
  lanes_low : lanes 4 (bytes_at l at) < 4294967296
  unfolding lanes
  lanes_low = omega (arith, b (at + 0), b (at + 1), b (at + 2), b (at + 3))

  be-low : be 4 l at < 4294967296
  unfolding be
  be-low = omega (arith, b (at + 0), b (at + 1), b (at + 2), b (at + 3))

  halves : be 8 l at ≡ be 4 l at * 4294967296 + be 4 l (at + 4)
  unfolding be64
  halves = rw (be4 l at, be4 l (at + 4)) (be8 l at)

  pub same64 : (f : ℕ) → f ≤ 1 → (be 8 l at ≡ f → lanes 4 (bytes_at l at) + lanes 4 (bytes_at l (at + 4)) * 4294967296 ≡ f * 72057594037927936) × (lanes 4 (bytes_at l at) + lanes 4 (bytes_at l (at + 4)) * 4294967296 ≡ f * 72057594037927936 → be 8 l at ≡ f)
  same64 f h =
      let H = same32 l b at 0 (omega arith) in
      let L = same32 l b (at + 4) f h in (
        λ e.
            let x : lanes 4 (bytes_at l at) ≡ 0 = H.0 (omega (arith, halves)) in
            let y : lanes 4 (bytes_at l (at + 4)) ≡ f * 16777216 = L.0 (omega (arith, halves)) in
            omega arith,
        λ e.
            let x : be 4 l at ≡ 0 = H.1 (omega (arith, lanes_low)) in
            let y : be 4 l (at + 4) ≡ f = L.1 (omega (arith, lanes_low)) in
            omega (arith, halves),
      )

-- ---- a number of whole bytes is these bytes
module _ (l : List ℕ) (b : Small l) (j : ℕ) where
  pub whole16 : packed 4 l j ≡ be 2 l (2 * j)
  unfolding packed span be
  whole16 =
      let e : 16 * j / 8 ≡ 2 * j = omega arith in
      number-whole 16 2 l (16 * j) refl refl (omega arith) (rw e (omega (arith, b (2 * j + 0), b (2 * j + 1)))) ∙ ap (be 2 l) e

  pub whole32 : packed 5 l j ≡ be 4 l (4 * j)
  unfolding packed span
  whole32 =
      let e : 32 * j / 8 ≡ 4 * j = omega arith in
      number-whole 32 4 l (32 * j) refl refl (omega arith) (rw e (be-low l b (4 * j))) ∙ ap (be 4 l) e

  pub whole64 : packed 6 l j ≡ be 8 l (8 * j)
  unfolding packed span
  whole64 =
      let e : 64 * j / 8 ≡ 8 * j = omega arith in
      number-whole 64 8 l (64 * j) refl refl (omega arith) (rw e (omega (arith, halves l b (8 * j), be-low l b (8 * j), be-low l b (8 * j + 4)))) ∙ ap (be 8 l) e

pub turned8 : (l : List ℕ) (at : ℕ) → lanes 4 (bytes_at l at) + lanes 4 (bytes_at l (at + 4)) * 4294967296 ≡ lanes 8 (bytes_at l at)
unfolding lanes
turned8 l at = simp (add-zero, add_assoc) (omega arith)
