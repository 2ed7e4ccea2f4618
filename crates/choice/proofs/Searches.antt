-- Laws of the searches over a range of numbers.
-- Assumes nothing.
use Rattle.std.specs.Prelude.{if◌then◌else◌}
use Prim.Native.Nat.{ℕ, zero, suc, ◌+◌, ◌-◌, ◌≤◌, ◌<◌}
use mathlib.Core.Path.{◌≡◌, refl}
use mathlib.Core.Bool.{Bool, true, false}
use native.Mathlib.Nat.{add-zero, zero-add, add-suc, suc-add, add_assoc}
use native.Mathlib.Omega.{arith}
use Rattle.choice.specs.Pick.{first, count}

-- a search over a range: one of its turns
pub first_turn : (p : ℕ → Bool) (k n : ℕ) → k < n → first p k (n - k) ≡ (if p k then k else first p (k + 1) (n - (k + 1)))
first_turn p k n h = let e : n - k ≡ suc (n - (k + 1)) = omega arith in let f : suc k ≡ k + 1 = omega arith in rw (e, f)

pub first-none : (p : ℕ → Bool) (k n : ℕ) → n ≤ k → first p k (n - k) ≡ k
first-none p k n h = let e : n - k ≡ 0 = omega arith in rw e

pub count_turn : (p : ℕ → Bool) (k n : ℕ) → k < n → count p k (n - k) ≡ (if p k then 1 else 0) + count p (k + 1) (n - (k + 1))
count_turn p k n h = let e : n - k ≡ suc (n - (k + 1)) = omega arith in let f : suc k ≡ k + 1 = omega arith in rw (e, f)

pub count_none : (p : ℕ → Bool) (k n : ℕ) → n ≤ k → count p k (n - k) ≡ 0
count_none p k n h = let e : n - k ≡ 0 = omega arith in rw e

-- tests that agree on two ranges of one length count the same
pub count_same : (p q : ℕ → Bool) (i j k : ℕ) → ((x : ℕ) → x < k → p (i + x) ≡ q (j + x)) → count p i k ≡ count q j k
count_same p q i j zero h = refl
count_same p q i j (suc k) h =
    let e : p i ≡ q j = rw (add-zero, add-zero) at (h 0 (omega arith)) in
    rw (e, count_same p q (suc i) (suc j) k (λ x l. rw (suc-add, suc-add, ← add-suc, ← add-suc) (h (suc x) (omega arith))))

-- a range in two parts
count_split : (p : ℕ → Bool) (i m k : ℕ) → count p i (m + k) ≡ count p i m + count p (i + m) k
count_split p i zero k = rw (zero-add, add-zero, zero-add)
count_split p i (suc m) k = rw (suc-add, count_split p (suc i) m k, suc-add, ← add-suc, add_assoc)

-- m turns at once
pub count_turns : (p : ℕ → Bool) (k m n : ℕ) → k + m ≤ n → count p k (n - k) ≡ count p k m + count p (k + m) (n - (k + m))
count_turns p k m n h = let e : n - k ≡ m + (n - (k + m)) = omega arith in rw e (count_split p k m (n - (k + m)))

pub count_most : (p : ℕ → Bool) (i k : ℕ) → count p i k ≤ k
count_most p i zero = omega arith
count_most p i (suc k) = go (p i) (count_most p (suc i) k)
  where
    go : (t : Bool) → count p (suc i) k ≤ k → (if t then 1 else 0) + count p (suc i) k ≤ suc k
    go true h = omega arith
    go false h = omega arith
