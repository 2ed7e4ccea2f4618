-- Laws of `each`. Assumes nothing.
use Prim.Native.Nat.{ℕ, zero, suc, ◌+◌, ◌<◌}
use native.Mathlib.Nat.{add-zero, add-suc, suc-add, zero-add, zero-lt-suc}
use native.Mathlib.Omega.{arith}
use mathlib.Core.Path.{◌≡◌, refl, ap, ap₂}
use mathlib.Core.List.{List, [], ◌∷◌, ◌++◌}
use lib.ListN.{length, get_or}
use Rattle.choice.specs.Pick.{each}

pub length-each : (f : ℕ → ℕ) (x k : ℕ) → length (each f x k) ≡ k
length-each f x zero = refl
length-each f x (suc k) = ap suc (length-each f (suc x) k)

pub each_append : (f : ℕ → ℕ) (x a b : ℕ) → each f x (a + b) ≡ each f x a ++ each f (x + a) b
each_append f x zero b = rw (zero-add, add-zero)
each_append f x (suc a) b = rw (suc-add, add-suc) (rw (← suc-add) (ap (λ (l : List ℕ). f x ∷ l) (each_append f (suc x) a b)))

-- a list is each of its elements
pub each_list : (f : ℕ → ℕ) (l : List ℕ) (x : ℕ) → ((i : ℕ) → i < length l → f (x + i) ≡ get_or l i 0) → each f x (length l) ≡ l
each_list f [] x h = refl
each_list f (y ∷ l) x h =
    ap₂ (λ (a : ℕ) (r : List ℕ). a ∷ r) (rw add-zero at (h 0 (zero-lt-suc (length l))))
    (each_list f l (suc x) (λ i g. rw (suc-add, ← add-suc) (h (suc i) (omega arith))))
