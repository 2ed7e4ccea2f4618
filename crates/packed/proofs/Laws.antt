-- Laws of counting and searching one number more. Assumes nothing.
use Rattle.std.specs.Prelude.{if◌then◌else◌}
use Prim.Native.Nat.{ℕ, suc, ◌+◌, ◌-◌, ◌*◌, ◌^◌, ◌≤◌, ◌<◌}
use native.Mathlib.Nat.{mul-le-mul_left, mul-le-mul_right, sub-zero, zero-add, add-zero}
use native.Mathlib.Omega.{arith}
use mathlib.Core.Path.{◌≡◌, refl}
use mathlib.Core.Bool.{Bool, true, false, ◌||◌}
use lib.Dec.{eqb, ltb}
use lib.Pow.{pow_pos}
use borrow.Author.Tests.{lt-ltb, le-ltb, ltb-true, eq-eqb, ne_eqb, eqb-true, eqb-false}
use Rattle.choice.specs.Pick.{first, count}
use Rattle.choice.proofs.Searches.{count_turns}
use Rattle.choice.proofs.Runs.{first_split}
use Rattle.widths.specs.Width.{Inside}
use Rattle.widths.proofs.Cells.{inside-first}
use Rattle.packed.specs.Packed.{Lie}

-- one test for another
pub eqb_same : (x f t g : ℕ) → (x ≡ f → t ≡ g) → (t ≡ g → x ≡ f) → eqb x f ≡ eqb t g
eqb_same x f t g to from = go (eqb t g) refl
  where
    go : (b : Bool) → eqb t g ≡ b → eqb x f ≡ b
    go true e = eq-eqb x f (from (eqb-true t g e))
    go false e = ne_eqb x f (λ z. eqb-false t g e (to z))

-- so many numbers more are counted
pub count_split : (p : ℕ → Bool) (a b : ℕ) → count p 0 (a + b) ≡ count p 0 a + count p a b
count_split p a b =
    let e : a + b - a ≡ b = omega arith in
    rw (sub-zero, zero-add, e) at (count_turns p 0 a (a + b) (omega arith))

-- one number more is counted
pub count_next : (p : ℕ → Bool) (j : ℕ) → count p 0 (j + 1) ≡ count p 0 j + (if p j then 1 else 0)
count_next p j =
    let e : j + 1 - j ≡ 1 = omega arith in
    rw (sub-zero, zero-add, e, add-zero) at (count_turns p 0 j (j + 1) (omega arith))

-- one number more is searched
pub found-next : (p : ℕ → Bool) (j i : ℕ) → ltb (first p j (i + 1)) (j + (i + 1)) ≡ (p (j + i) || ltb (first p j i) (j + i))
found-next p j i = rw (first_split p j i 1) (go (p (j + i)) (ltb (first p j i) (j + i)) refl)
  where
    go : (u t : Bool) → ltb (first p j i) (j + i) ≡ t → ltb (if t then first p j i else if u then j + i else suc (j + i)) (j + (i + 1)) ≡ (u || t)
    go true true e = let h : first p j i < j + i = ltb-true _ _ e in lt-ltb (first p j i) (j + (i + 1)) (omega arith)
    go false true e = let h : first p j i < j + i = ltb-true _ _ e in lt-ltb (first p j i) (j + (i + 1)) (omega arith)
    go true false e = lt-ltb (j + i) (j + (i + 1)) (omega arith)
    go false false e = le-ltb (suc (j + i)) (j + (i + 1)) (omega arith)

-- number j lies there
pub lie_inside : {o n m : ℕ} → Lie o n m → (j : ℕ) → j < m → Inside o n (2 ^ o * j)
lie_inside {o} {n} {m} l j h = inside-first o n m j l.few l.fits h

-- its place is no great number
pub lie_place : {o n m : ℕ} → Lie o n m → (j : ℕ) → j ≤ m → 2 ^ o * j ≤ 34359738368
lie_place {o} {n} {m} l j h = omega (arith, l.short, l.fits, mul-le-mul_left (2 ^ o) h)

-- nor is their number
pub lie_few : {o n m : ℕ} → Lie o n m → m ≤ 34359738368
lie_few {o} {n} {m} l = omega (arith, lie_place l m (omega arith), mul-le-mul_right m (pow_pos o))
