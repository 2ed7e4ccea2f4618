-- What a search finds, and how many numbers of its range pass the test. Assumes nothing.
use Rattle.std.specs.Prelude.{if◌then◌else◌}
use Prim.Native.Nat.{ℕ, zero, suc, ◌+◌, ◌-◌, ◌≤◌, ◌<◌}
use native.Mathlib.Nat.{zero-add, le_refl}
use native.Mathlib.Decide.{ℕ_discrete}
use native.Mathlib.Omega.{arith}
use mathlib.Core.Path.{◌≡◌, refl, sym, ap, ◌∙◌}
use mathlib.Core.Logic.{◌⊎◌, inl, inr, ◌≢◌, ◌↔◌}
use mathlib.Core.Bool.{Bool, true, false}
use lib.Dec.{ltb}
use borrow.Author.Tests.{ltb-true, ltb-false}
use Rattle.choice.specs.Pick.{first, count}
use Rattle.choice.proofs.Tests.{if_yes, if_no, two_ways}

-- where nothing passes
pub first-false : (p : ℕ → Bool) (i k : ℕ) → ((x : ℕ) → i ≤ x → x < i + k → p x ≡ false) → first p i k ≡ i + k
first-false p i zero h = omega arith
first-false p i (suc k) h = if_no (p i) i _ (h i (le_refl i) (omega arith)) ∙ first-false p (suc i) k (λ x l m. h x (omega arith) (omega arith)) ∙ omega arith

pub count-zero : (p : ℕ → Bool) (i k : ℕ) → count p i k ≡ 0 → (x : ℕ) → i ≤ x → x < i + k → p x ≡ false
count-zero p i zero h x l m = absurd (omega arith)
count-zero p i (suc k) h x l m = go (two_ways (p i)) (ℕ_discrete i x) (λ d. count-zero p (suc i) k (omega arith) x (omega arith) (omega arith))
  where
    go : (p i ≡ true) ⊎ (p i ≡ false) → Dec (i ≡ x) → (i ≢ x → p x ≡ false) → p x ≡ false
    go (inl e) d r = let q : ◌≡◌ {A = ℕ} (if p i then 1 else 0) 1 = if_yes (p i) 1 0 e in absurd (omega arith)
    go (inr e) (yes d) r = rw d at e
    go (inr e) (no d) r = r d

pub count-false : (p : ℕ → Bool) (i k : ℕ) → ((x : ℕ) → i ≤ x → x < i + k → p x ≡ false) → count p i k ≡ 0
count-false p i zero h = refl
count-false p i (suc k) h =
    let q : ◌≡◌ {A = ℕ} (if p i then 1 else 0) 0 = if_no (p i) 1 0 (h i (le_refl i) (omega arith)) in
    omega (arith, count-false p (suc i) k (λ x l m. h x (omega arith) (omega arith)))

module _ (p : ℕ → Bool) where
  -- the first that passes, and those after it
  pub count-first : (i k : ℕ) → first p i k < i + k → count p i k ≡ 1 + count p (first p i k + 1) (i + k - (first p i k + 1))
  count-first i zero h = absurd (omega arith)
  count-first i (suc k) h = go (two_ways (p i)) (λ l. count-first (suc i) k l)
    where
      go : (p i ≡ true) ⊎ (p i ≡ false)
          → (first p (suc i) k < suc i + k → count p (suc i) k ≡ 1 + count p (first p (suc i) k + 1) (suc i + k - (first p (suc i) k + 1)))
          → count p i (suc k) ≡ 1 + count p (first p i (suc k) + 1) (i + suc k - (first p i (suc k) + 1))
      go (inl e) r =
          let q : first p i (suc k) ≡ i = if_yes (p i) i _ e in
          let o : ◌≡◌ {A = ℕ} (if p i then 1 else 0) 1 = if_yes (p i) 1 0 e in
          let a : i + suc k - (i + 1) ≡ k = omega arith in
          let b : i + 1 ≡ suc i = omega arith in
          rw (q, o, a, b)
      go (inr e) r =
          let q : first p i (suc k) ≡ first p (suc i) k = if_no (p i) i _ e in
          let o : ◌≡◌ {A = ℕ} (if p i then 1 else 0) 0 = if_no (p i) 1 0 e in
          let a : i + suc k ≡ suc i + k = omega arith in
          rw (q, a, o, zero-add) (r (omega arith))

  pub count_past : (i k : ℕ) → i + k ≤ first p i k → count p i k ≡ 0
  count_past i zero h = refl
  count_past i (suc k) h = go (two_ways (p i)) (λ l. count_past (suc i) k l)
    where
      go : (p i ≡ true) ⊎ (p i ≡ false) → (suc i + k ≤ first p (suc i) k → count p (suc i) k ≡ 0) → count p i (suc k) ≡ 0
      go (inl e) r = let q : first p i (suc k) ≡ i = if_yes (p i) i _ e in absurd (omega arith)
      go (inr e) r =
          let q : first p i (suc k) ≡ first p (suc i) k = if_no (p i) i _ e in
          let o : ◌≡◌ {A = ℕ} (if p i then 1 else 0) 0 = if_no (p i) 1 0 e in
          rw (o, zero-add) (r (omega arith))

  -- a search finds something exactly where something counts
  pub some_first : (i k : ℕ) → (first p i k < i + k) ↔ (1 ≤ count p i k)
  some_first i k = ((λ l. omega (arith, count-first i k l)), λ l. go (ltb (first p i k) (i + k)) refl l)
    where
      go : (b : Bool) → ltb (first p i k) (i + k) ≡ b → 1 ≤ count p i k → first p i k < i + k
      go true e l = ltb-true _ _ e
      go false e l = absurd (omega (arith, count_past i k (ltb-false _ _ e)))

  -- a search never passes over what it looks for
  pub first-least : (i k x : ℕ) → i ≤ x → x < i + k → p x ≡ true → first p i k ≤ x
  first-least i zero x h l e = absurd (omega arith)
  first-least i (suc k) x h l e = go (two_ways (p i)) (λ m. first-least (suc i) k x m (omega arith) e)
    where
      go : (p i ≡ true) ⊎ (p i ≡ false) → (suc i ≤ x → first p (suc i) k ≤ x) → first p i (suc k) ≤ x
      go (inl d) r = let q : first p i (suc k) ≡ i = if_yes (p i) i _ d in omega arith
      go (inr d) r =
          let q : first p i (suc k) ≡ first p (suc i) k = if_no (p i) i _ d in
          let n : i ≡ x → ⊥ = λ z. let c : ◌≡◌ {A = Bool} true false = sym e ∙ ap p (sym z) ∙ d in let w : ◌≡◌ {A = ℕ} 0 1 = cc in omega arith in
          omega (arith, r (omega arith))

  -- what a search finds passes the test
  pub first_passes : (i k : ℕ) → first p i k < i + k → p (first p i k) ≡ true
  first_passes i zero h = absurd (omega arith)
  first_passes i (suc k) h = go (two_ways (p i)) (λ l. first_passes (suc i) k l)
    where
      go : (p i ≡ true) ⊎ (p i ≡ false) → (first p (suc i) k < suc i + k → p (first p (suc i) k) ≡ true) → p (first p i (suc k)) ≡ true
      go (inl e) r = let q : first p i (suc k) ≡ i = if_yes (p i) i _ e in rw q e
      go (inr e) r = let q : first p i (suc k) ≡ first p (suc i) k = if_no (p i) i _ e in rw q (r (omega arith))
