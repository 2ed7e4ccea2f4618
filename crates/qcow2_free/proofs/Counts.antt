-- The counts of a run of clusters in one refcount block, and searches by parts. Assumes nothing.
use Prim.Native.Nat.{ℕ, zero, suc, ◌+◌, ◌-◌, ◌*◌, ◌/◌, ◌%◌, ◌^◌, ◌≤◌, ◌<◌}
use native.Mathlib.Nat.{mod-lt, div-add-mod'}
use native.Mathlib.Omega.{arith}
use mathlib.Core.Path.{◌≡◌, refl, sym, ap, ◌∙◌}
use mathlib.Core.Bool.{Bool}
use mathlib.Core.List.{List}
use lib.Pow.{pow-add, pow_pos}
use lib.ListN.{length, take, drop}
use Rattle.widths.specs.Width.{number}
use Rattle.widths.proofs.Cells.{number-part, inside-first}
use Rattle.choice.specs.Pick.{first}
use Rattle.choice.proofs.Runs.{Agree, first_shift, first-low, first-high, first_hit, first_miss}
use Rattle.qcow2_spec.specs.Header.{width, per_block, block_at}
use Rattle.qcow2_spec.specs.Counts.{free_at}
use Rattle.qcow2_spec.specs.Opened.{Opened}
use Rattle.qcow2_spec.specs.declared.Geometry.{Geometry}
use Rattle.packed.specs.Packed.{packed, zero_at, Lie}
use Rattle.qcow2_counts.proofs.Blocks.{block_stands}
use Rattle.qcow2_free.specs.Zeros.{zero_in}

-- the counts of a run of clusters stand one after another in their block
in_block : (s : List ℕ) (b H j m : ℕ) → per_block s ≡ H → j + m ≤ H → Agree (free_at s) (zero_in s b) (b * H + j) j m
unfolding free_at zero_in
in_block s b H j m e h d l =
    let q : b * H + j + d ≡ b * H + (j + d) = omega arith in
    rw (q, block_stands s (width s) H b (j + d) (block_at s b) refl (sym e) refl (omega arith))

-- the run from cluster i on, searched in its block
pub run-free : (s : List ℕ) (b H j m i r : ℕ) → per_block s ≡ H → j + m ≤ H → i ≡ b * H + j → r ≡ first (zero_in s b) j m → first (free_at s) i m + j ≡ i + r
run-free s b H j m i r e h is f = rw (is, f) (first_shift (free_at s) (zero_in s b) (b * H + j) j m (in_block s b H j m e h))

-- a block that is lent as a part
pub part-zero : (o : ℕ) (s : List ℕ) (b C j m : ℕ) → o ≤ 6 → 2 ^ o ≡ width s → 2 ^ o * (j + m) ≤ 8 * C
    → first (zero_at o (take C (drop (block_at s b) s))) j m ≡ first (zero_in s b) j m
unfolding zero_at packed zero_in
part-zero o s b C j zero lo v h = refl
part-zero o s b C j (suc m) lo v h =
    let e : number (2 ^ o) (take C (drop (block_at s b) s)) (2 ^ o * j) ≡ number (2 ^ o) s (8 * block_at s b + 2 ^ o * j) =
    number-part o C s (block_at s b) (2 ^ o * j) (inside-first o C (j + suc m) j lo h (omega arith)) in
    let q : j + suc m ≡ suc j + m = omega arith in
    rw (e, part-zero o s b C (suc j) m lo v (rw q at h), v) refl

-- refcount block b is looked up: its place and its bytes
pub record Looked (g : Geometry) (s : List ℕ) (b at c : ℕ) : Type 0 where
  pub accepted : Opened g s
  pub is_at : at ≡ block_at s b
  pub is_c : c ≡ 2 ^ g.bits
  pub inside : at + 2 ^ g.bits ≤ length s

module _ {g : Geometry} {s : List ℕ} {b at c : ℕ} (k : Looked g s b at c) where
  pub block_inside : at + c ≤ length s
  block_inside = omega (arith, k.inside, k.is_c)

  -- its first counts
  module _ (end : ℕ) (fits : 2 ^ g.order * end ≤ 8 * 2 ^ g.bits) where
    pub block_lie : Lie g.order c end
    block_lie = record { few = k.accepted.narrow; short = omega (arith, block_inside, k.accepted.short); fits = rw k.is_c fits }

    pub block_found : (j r : ℕ) → j ≤ end → r ≡ first (zero_at g.order (take c (drop at s))) j (end - j) → (r ≡ first (zero_in s b) j (end - j)) × ((j ≤ r) × (r ≤ end))
    block_found j r h e =
        let n : j + (end - j) ≡ end = omega arith in
        let f : r ≡ first (zero_in s b) j (end - j) =
        rw (k.is_at, k.is_c) at e ∙ part-zero g.order s b (2 ^ g.bits) j (end - j) k.accepted.narrow k.accepted.is-width (rw n fits) in
        (f, (omega (arith, f, first-low (zero_in s b) j (end - j)), omega (arith, f, n, first-high (zero_in s b) j (end - j))))

-- a search in two parts, the first up to a number
module _ (p : ℕ → Bool) (j up end f : ℕ) (low : j ≤ up) (high : up ≤ end) (is : f ≡ first p j (up - j)) where
  two : j + (up - j) ≡ up
  two = omega arith

  pub part_hit : f < up → f ≡ first p j (end - j)
  part_hit l = is ∙ sym (first_hit p j (up - j) end (omega (arith, two)) (omega (arith, two, is)))

  pub part_missed : up ≤ f → first p j (end - j) ≡ first p up (end - up)
  part_missed l = rw two at (first_miss p j (up - j) end (omega (arith, two)) (omega (arith, two, is)))

-- the last `left` of N numbers, searched from index j to an index `end`
module _ (p : ℕ → Bool) (N left j end f : ℕ) (all : left ≤ N) (low : j ≤ end) (high : end ≤ left) (is : first p (N - left + j) (end - j) + j ≡ N - left + j + f) where
  to_end : N - left + j + (end - j) ≡ N - (left - end) + 0
  to_end = omega arith

  among : N - left + j + (end - j) ≤ N
  among = omega arith

  pub left_hit : f < end → N - left + f ≡ first p (N - left + j) (N - (N - left + j))
  left_hit l =
      let e : first p (N - left + j) (end - j) ≡ N - left + f = omega (arith, is) in
      sym (first_hit p (N - left + j) (end - j) N among (omega (arith, e, l, low)) ∙ e)

  pub left_missed : end ≤ f → first p (N - left + j) (N - (N - left + j)) ≡ first p (N - (left - end) + 0) (N - (N - (left - end) + 0))
  left_missed l =
      let e : first p (N - left + j) (end - j) ≡ N - left + f = omega (arith, is) in
      rw to_end at (first_miss p (N - left + j) (end - j) N among (omega (arith, e, l, low)))

-- a block's counts are a multiple of 8
module _ (n : ℕ) (high : 3 ≤ n) (i : ℕ) where
  eight : 2 ^ n ≡ 8 * 2 ^ (n - 3)
  eight = let e : n ≡ 3 + (n - 3) = omega arith in ap (λ (x : ℕ). 2 ^ x) e ∙ pow-add 2 3 (n - 3)

  pub index_eighth : i % 2 ^ n % 8 ≡ i % 8
  index_eighth =
      let e : i / 2 ^ n * 2 ^ n ≡ 8 * (i / 2 ^ n * 2 ^ (n - 3)) = ap (λ (x : ℕ). i / 2 ^ n * x) eight ∙ omega arith in
      omega (arith, div-add-mod' i (2 ^ n), e)

  -- so that a run up to the next multiple of 8 stands in one
  pub eighth_fits : (up : ℕ) → up ≤ i + (8 - i % 8) % 8 → i % 2 ^ n + (up - i) ≤ 2 ^ n
  eighth_fits up h = omega (arith, index_eighth, eight, mod-lt i (pow_pos n), h)
