-- An answer that tells nothing but a refusal, by its number.
-- Assumes nothing.
use Rattle.std.specs.Prelude.{ℕ, zero, suc, ◌≡◌, Ok, Err}
use Rattle.std.proofs.Common.{refl}
use Rattle.qcow2_spec.specs.Causes.{answer}

-- a number that is told
pub answer_err : (n k : ℕ) → answer n ≡ Err k → (n ≡ k) × (n ≡ 0 → ⊥)
answer_err zero k e = cc
answer_err (suc n) k e = (cc, λ z. cc)

-- none is
pub answer_ok : (n : ℕ) (u : Unit {0}) → answer n ≡ Ok u → n ≡ 0
answer_ok zero u e = refl
answer_ok (suc n) u e = cc

-- one that is not 0 is
pub answer_some : (n : ℕ) → (n ≡ 0 → ⊥) → Err n ≡ answer n
answer_some zero h = absurd (h refl)
answer_some (suc n) h = refl
