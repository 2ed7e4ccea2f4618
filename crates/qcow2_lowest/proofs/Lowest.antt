-- Laws of a search for the lowest shared cluster, window by window.
-- Assumes nothing.
use Prim.Native.Nat.{ℕ, ◌-◌, ◌≤◌, ◌<◌}
use native.Mathlib.Nat.{zero-add, sub-zero}
use native.Mathlib.Omega.{arith}
use mathlib.Core.Path.{◌≡◌, refl, sym, ◌∙◌}
use mathlib.Core.Logic.{◌⊎◌, inl, inr}
use mathlib.Core.Bool.{true, false}
use mathlib.Core.List.{List}
use lib.Dec.{ltb}
use borrow.Author.Tests.{ltb-true, ltb-false}
use Rattle.choice.specs.Pick.{first}
use Rattle.choice.proofs.Found.{first-false}
use Rattle.choice.proofs.Runs.{first_miss}
use Rattle.choice.proofs.Searches.{first_turn}
use Rattle.choice.proofs.Tests.{two_ways}
use Rattle.qcow2_spec.specs.Header.{clusters}
use Rattle.qcow2_spec.specs.Check.{shared_at}
use Rattle.qcow2_lowest.specs.Lowest.{Clear, LowestIn}

module _ (s : List ℕ) where
  pub clear_none : Clear s 0
  clear_none k l = absurd (omega arith)

  -- the window has none
  pub clear_next : (b e r : ℕ) → LowestIn s b e r → clusters s ≤ r → e ≤ clusters s → Clear s b → Clear s e
  clear_next b e r w h l c k m = go (two_ways (shared_at s k)) (two_ways (ltb k b))
    where
      go : (shared_at s k ≡ true) ⊎ (shared_at s k ≡ false) → (ltb k b ≡ true) ⊎ (ltb k b ≡ false) → shared_at s k ≡ false
      go (inr x) y = x
      go (inl x) (inl y) = c k (ltb-true k b y)
      go (inl x) (inr y) = absurd (omega (arith, w.least k (ltb-false k b y) m x))

  -- all windows had none
  pub clear-all : Clear s (clusters s) → clusters s ≡ first (shared_at s) 0 (clusters s)
  clear-all c = sym (first-false (shared_at s) 0 (clusters s) (λ x a b. c x (omega arith)) ∙ zero-add (clusters s))

  -- the window has one: it is the lowest of all
  pub lowest-found : (b e r : ℕ) → LowestIn s b e r → r < clusters s → Clear s b → r ≡ first (shared_at s) 0 (clusters s)
  lowest-found b e r w h c =
      sym ((rw sub-zero at (first_miss (shared_at s) 0 r (clusters s) (omega arith) (omega (arith, first-false (shared_at s) 0 r (λ x l m. before x (omega arith))))))
      ∙ rw zero-add (first_turn (shared_at s) r (clusters s) h ∙ rw (w.some h).2 refl))
    where
      before : (k : ℕ) → k < r → shared_at s k ≡ false
      before k l = go (two_ways (shared_at s k)) (two_ways (ltb k b))
        where
          go : (shared_at s k ≡ true) ⊎ (shared_at s k ≡ false) → (ltb k b ≡ true) ⊎ (ltb k b ≡ false) → shared_at s k ≡ false
          go (inr x) y = x
          go (inl x) (inl y) = c k (ltb-true k b y)
          go (inl x) (inr y) = absurd (omega (arith, w.least k (ltb-false k b y) (omega (arith, (w.some h).1)) x))
