-- A search by parts: some numbers first and then the others; and one run of numbers searched in place of another.
-- Assumes nothing.
use Rattle.std.specs.Prelude.{if◌then◌else◌}
use Prim.Native.Nat.{ℕ, zero, suc, ◌+◌, ◌-◌, ◌≤◌, ◌<◌}
use native.Mathlib.Nat.{add-zero, zero-add, add-suc, suc-add}
use native.Mathlib.Omega.{arith}
use mathlib.Core.Path.{◌≡◌, refl}
use mathlib.Core.Bool.{Bool, true, false}
use lib.Dec.{ltb}
use borrow.Author.Tests.{lt-ltb, le-ltb, ltb-true, ltb-false}
use Rattle.choice.specs.Pick.{first}

-- where a search ends
pub first-low : (p : ℕ → Bool) (i m : ℕ) → i ≤ first p i m
first-low p i zero = omega arith
first-low p i (suc m) = go (first-low p (suc i) m) (p i)
  where
    go : suc i ≤ first p (suc i) m → (t : Bool) → i ≤ (if t then i else first p (suc i) m)
    go r true = omega arith
    go r false = omega arith

pub first-high : (p : ℕ → Bool) (i m : ℕ) → first p i m ≤ i + m
first-high p i zero = omega arith
first-high p i (suc m) = go (first-high p (suc i) m) (p i)
  where
    go : first p (suc i) m ≤ suc i + m → (t : Bool) → (if t then i else first p (suc i) m) ≤ i + suc m
    go r true = omega arith
    go r false = omega arith

-- m numbers, and then n more
pub first_split : (p : ℕ → Bool) (i m n : ℕ) → first p i (m + n) ≡ (if ltb (first p i m) (i + m) then first p i m else first p (i + m) n)
first_split p i zero n = rw (zero-add, add-zero, le-ltb i i (omega arith))
first_split p i (suc m) n = rw (suc-add, add-suc, ← suc-add) (go (first_split p (suc i) m n) (p i))
  where
    go : first p (suc i) (m + n) ≡ (if ltb (first p (suc i) m) (suc i + m) then first p (suc i) m else first p (suc i + m) n)
        → (t : Bool)
        → (if t then i else first p (suc i) (m + n)) ≡ (if ltb (if t then i else first p (suc i) m) (suc i + m) then (if t then i else first p (suc i) m) else first p (suc i + m) n)
    go r true = rw (lt-ltb i (suc i + m) (omega arith))
    go r false = r

-- a search of the numbers below n, of which m from i on were searched
pub first_hit : (p : ℕ → Bool) (i m n : ℕ) → i + m ≤ n → first p i m < i + m → first p i (n - i) ≡ first p i m
first_hit p i m n h l =
    let e : n - i ≡ m + (n - (i + m)) = omega arith in
    rw (e, first_split p i m (n - (i + m)), lt-ltb (first p i m) (i + m) l)

pub first_miss : (p : ℕ → Bool) (i m n : ℕ) → i + m ≤ n → i + m ≤ first p i m → first p i (n - i) ≡ first p (i + m) (n - (i + m))
first_miss p i m n h l =
    let e : n - i ≡ m + (n - (i + m)) = omega arith in
    rw (e, first_split p i m (n - (i + m)), le-ltb (first p i m) (i + m) l)

-- two tests that agree on a run
abbrev pub Agree : (p q : ℕ → Bool) (i j m : ℕ) → Type 0
Agree p q i j m = (d : ℕ) → d < m → p (i + d) ≡ q (j + d)

-- the run, by either test
pub first_shift : (p q : ℕ → Bool) (i j m : ℕ) → Agree p q i j m → first p i m + j ≡ i + first q j m
first_shift p q i j zero a = refl
first_shift p q i j (suc m) a = go (first_shift p q (suc i) (suc j) m next) (q j) refl
  where
    here : p i ≡ q j
    here = rw (add-zero, add-zero) at (a 0 (omega arith))

    next : Agree p q (suc i) (suc j) m
    next d h = rw (suc-add, suc-add, ← add-suc, ← add-suc) (a (suc d) (omega arith))

    go : first p (suc i) m + suc j ≡ suc i + first q (suc j) m
        → (t : Bool) → q j ≡ t → (if p i then i else first p (suc i) m) + j ≡ i + (if q j then j else first q (suc j) m)
    go r true e = rw (here, e)
    go r false e = rw (here, e) (omega arith)

-- a search that found none
pub first_passed : (p : ℕ → Bool) (i n k : ℕ) → i + n ≤ first p i n → i ≤ k → k < i + n → p k ≡ false
first_passed p i zero k h a b = absurd (omega arith)
first_passed p i (suc n) k h a b = go (λ q r. first_passed p (suc i) n k q r (omega arith)) (p i) refl
  where
    go : (suc i + n ≤ first p (suc i) n → suc i ≤ k → p k ≡ false) → (t : Bool) → p i ≡ t → p k ≡ false
    go r true e = absurd (let q : i + suc n ≤ i = rw e at h in omega arith)
    go r false e =
        let q : i + suc n ≤ first p (suc i) n = rw e at h in
        or_later q (ltb i k) refl
      where
        or_later : i + suc n ≤ first p (suc i) n → (t : Bool) → ltb i k ≡ t → p k ≡ false
        or_later q true l = r (omega arith) (ltb-true i k l)
        or_later q false l = let g : i ≡ k = (let m : k ≤ i = ltb-false i k l in omega arith) in rw g at e
