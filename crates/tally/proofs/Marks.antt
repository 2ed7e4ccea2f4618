-- A cluster's two bytes after the walks: its state of `Roles`, and above it how often it was reached. Assumes nothing.
use Prim.Native.Nat.{ℕ, suc, ◌+◌, ◌*◌, ◌/◌, ◌%◌, ◌≤◌}
use native.Mathlib.Decide.{ℕ_discrete}
use native.Mathlib.Omega.{arith}
use mathlib.Core.Path.{◌≡◌, sym, ap, ◌∙◌}
use mathlib.Core.Logic.{◌≢◌}
use Rattle.tally.specs.Roles.{reached}
use Rattle.tally.specs.States.{step}
use Rattle.tally.proofs.Roles.{reached-first, reached-next, reached_role, reached-again}
use Rattle.tally.proofs.Steps.{step-first, step_role, step-again, step-next}

-- ---- one cluster's number
-- the parts of a number
module _ (r u : ℕ) (h : r ≤ 3) where
  state_role : (r + 4 * u) % 4 ≡ r
  state_role = omega arith

  state_tree : (r + 4 * u) / 4 ≡ u
  state_tree = omega arith

  mark_role : (n : ℕ) → (r + 4 * u + 512 * n) % 4 ≡ r
  mark_role n = omega arith

  mark_tree : (n : ℕ) → u ≤ 100 → (r + 4 * u + 512 * n) / 4 % 128 ≡ u
  mark_tree n l = omega arith

  pub mark_count : (n : ℕ) → u ≤ 100 → (r + 4 * u + 512 * n) / 512 ≡ n
  mark_count n l = omega arith

-- state and number of a cluster that was reached n times, by trees up to τ
pub data Alike (τ state x n : ℕ) : Type 0 where
  none : state ≡ 0 → x ≡ 0 → n ≡ 0 → Alike τ state x n
  some : (r u : ℕ) → 1 ≤ r → r ≤ 3 → u ≤ τ → state ≡ r + 4 * u → x ≡ r + 4 * u + 512 * n → 1 ≤ n → n ≤ u + 1 → Alike τ state x n
  bad : state ≡ 512 → x ≡ 4 → Alike τ state x n

pub alike_later : (τ state x n : ℕ) → Alike τ state x n → Alike (suc τ) state x n
alike_later τ state x n (none e f g) = none e f g
alike_later τ state x n (some r u a b c e f g h) = some r u a b (omega arith) e f g h
alike_later τ state x n (bad e f) = bad e f

module _ (r τ : ℕ) (low : 1 ≤ r) (high : r ≤ 3) (few : τ ≤ 100) where
  abbrev kind : ℕ
  kind = r + 4 * τ

  real : kind ≢ 0
  real e = omega (arith, low, e)

  pub alike_step : (state x n : ℕ) → Alike τ state x n → Alike τ (reached r τ state) (step kind x) (suc n)
  alike_step state x n (none e f g) =
      some r τ low high (omega arith) (ap (reached r τ) e ∙ reached-first r τ) (ap (step kind) f ∙ step-first kind real ∙ omega (arith, g)) (omega arith) (omega (arith, g))
  alike_step state x n (bad e f) =
      bad (reached_role r τ state (λ z. omega (arith, e, z)) (λ z. omega (arith, e, z, low, high)))
      (step_role kind real x (λ z. omega (arith, f, z)) (λ z. omega (arith, f, z, low, high)))
  alike_step state x n (some q u a b c e f g h) = go (ℕ_discrete q r) (ℕ_discrete u τ)
    where
      reached-before : state ≢ 0
      reached-before z = omega (arith, e, z, a)

      visited-before : x ≢ 0
      visited-before z = omega (arith, f, z, a)

      same_tree : x / 4 % 128 ≡ u
      same_tree = ap (λ (y : ℕ). y / 4 % 128) f ∙ mark_tree q u b n (omega (arith, c, few))

      same_role : q ≡ r → x % 4 ≡ kind % 4
      same_role s = ap (λ (y : ℕ). y % 4) f ∙ mark_role q u b n ∙ s ∙ sym (state_role r τ high)

      go : Dec (q ≡ r) → Dec (u ≡ τ) → Alike τ (reached r τ state) (step kind x) (suc n)
      go (no d) t =
          bad (reached_role r τ state reached-before (λ z. d (omega (arith, e, z, a, b, low, high))))
          (step_role kind real x visited-before (λ z. d (omega (arith, f, z, a, b, low, high))))
      go (yes s) (yes t) =
          bad (reached-again r τ state reached-before (ap (λ (y : ℕ). y % 4) e ∙ state_role q u b ∙ s) (ap (λ (y : ℕ). y / 4) e ∙ state_tree q u b ∙ t))
          (step-again kind real x visited-before (same_role s) (same_tree ∙ t ∙ sym (state_tree r τ high)))
      go (yes s) (no d) =
          some r τ low high (omega arith)
          (reached-next r τ state reached-before (ap (λ (y : ℕ). y % 4) e ∙ state_role q u b ∙ s) (λ z. d (sym (state_tree q u b) ∙ sym (ap (λ (y : ℕ). y / 4) e) ∙ z)))
          (step-next kind real x visited-before (same_role s) (λ z. d (sym same_tree ∙ z ∙ state_tree r τ high)) (omega (arith, f, b, c, few, h)) ∙ ap (λ (y : ℕ). kind + 512 * (y + 1)) (ap (λ (y : ℕ). y / 512) f ∙ mark_count q u b n (omega arith)) ∙ ap (λ (y : ℕ). kind + 512 * y) (omega arith))
          (omega arith) (omega (arith, c, h, d))
