-- Numbers that fill whole bytes, and searches that pass over them. Assumes nothing.
use Prim.Native.Nat.{ℕ, ◌+◌, ◌-◌, ◌*◌, ◌/◌, ◌%◌, ◌^◌, ◌≤◌}
use native.Mathlib.Nat.{mul-le-mul_left, zero-add}
use native.Mathlib.Omega.{arith}
use mathlib.Core.Path.{◌≡◌, refl, ◌∙◌}
use mathlib.Core.Bool.{Bool, false}
use mathlib.Core.List.{List}
use borrow.Author.Tests.{ltb-false}
use lib.Dec.{ltb}
use lib.ListN.{length, take, drop}
use Rattle.packed_zeros.proofs.Filled.{group-fill}
use Rattle.choice.specs.Pick.{first}
use Rattle.choice.proofs.Runs.{Agree, first_shift, first_miss}
use Rattle.power.proofs.Laws.{same_test}
use Rattle.widths.proofs.Cells.{number-part, inside-first}
use Rattle.packed.specs.Packed.{packed, zero_at, Lie}

-- a part of a block's numbers
pub lie_fewer : {o n m : ℕ} → Lie o n m → (j : ℕ) → j ≤ m → Lie o n j
lie_fewer {o} {n} {m} l j h = record { few = l.few; short = l.short; fits = omega (arith, l.fits, mul-le-mul_left (2 ^ o) h) }

-- those from number k on, a byte's first, and the bytes lent as a part
module _ (o e : ℕ) (wide : o ≤ e + 3) (T : List ℕ) (k w : ℕ) (is : w ≡ 2 ^ o) (whole : 2 ^ o * k % 8 ≡ 0) (lie : Lie o (length T) (k + 2 ^ (e + 3 - o))) where
  place : 2 ^ o * k ≡ 8 * (w * k / 8)
  place = rw is (omega (arith, whole))

  pub group_end : w * k / 8 + 2 ^ e ≤ length T
  group_end = omega (arith, place, group-fill o e wide, lie.fits)

  part : w * k / 8 + 2 ^ e - w * k / 8 ≡ 2 ^ e
  part = omega arith

  in_group : Agree (zero_at o (take (2 ^ e) (drop (w * k / 8) T))) (zero_at o T) 0 k (2 ^ (e + 3 - o))
  unfolding zero_at packed
  in_group d l =
      let f : 2 ^ o * (k + d) ≡ 8 * (w * k / 8) + 2 ^ o * d = omega (arith, place) in
      let i = inside-first o (2 ^ e) (2 ^ (e + 3 - o)) d lie.few (omega (arith, group-fill o e wide)) l in
      rw (zero-add, f, number-part o (2 ^ e) T (w * k / 8) (2 ^ o * d) i) refl

  pub group_test : {r : Bool}
      → r ≡ ltb (first (zero_at o (take (w * k / 8 + 2 ^ e - w * k / 8) (drop (w * k / 8) T))) 0 (2 ^ (e + 3 - o))) (2 ^ (e + 3 - o))
      → r ≡ ltb (first (zero_at o T) k (2 ^ (e + 3 - o))) (k + 2 ^ (e + 3 - o))
  group_test h =
      let S = 2 ^ (e + 3 - o) in
      let p = zero_at o (take (2 ^ e) (drop (w * k / 8) T)) in
      let q = first_shift p (zero_at o T) 0 k S in_group in
      rw part at h ∙ same_test (first p 0 S) S (first (zero_at o T) k S) (k + S) (λ l. omega (arith, q)) (λ l. omega (arith, q))

-- a group is passed over
pub group-next : (o e k m : ℕ) → o ≤ e + 3 → m ≡ 2 ^ (e + 3 - o) → 2 ^ o * k % 8 ≡ 0 → 2 ^ o * (k + m) % 8 ≡ 0
group-next o e k m h is whole = rw is (omega (arith, group-fill o e h, whole))

pub group_missed : (p : ℕ → Bool) (k S m end : ℕ) → m ≡ S → k + m ≤ end → ltb (first p k S) (k + S) ≡ false → first p k (end - k) ≡ first p (k + m) (end - (k + m))
group_missed p k S m end is h e = rw is (first_miss p k S end (omega arith) (ltb-false (first p k S) (k + S) e))

-- a multiple of 8 is a byte's first
pub eighth_whole : (o j : ℕ) → j % 8 ≡ 0 → 2 ^ o * j % 8 ≡ 0
eighth_whole o j h =
    let e : j ≡ 8 * (j / 8) = omega arith in
    let f : 2 ^ o * (8 * (j / 8)) ≡ 8 * (2 ^ o * (j / 8)) = omega arith in
    rw (e, f) (omega arith)
