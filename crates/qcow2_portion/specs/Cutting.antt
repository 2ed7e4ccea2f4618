-- A check cut into portions answers as the check done at once. Paper 02, T-12.
-- Assumes nothing.
use Rattle.std.specs.Prelude.{ℕ, ◌≤◌, ◌≡◌, true, List, [], ◌∷◌, ◌++◌, leb, length, Err, Ok, None, Some}
use Rattle.choice.specs.Pick.{all}
use Rattle.qcow2_spec.specs.Header.{roots}
use Rattle.qcow2_spec.specs.References.{scratch_left}
use Rattle.qcow2_spec.specs.Check.{check}
use Rattle.qcow2_spec.specs.declared.Verdict.{Verdict}
use Rattle.qcow2_spec.specs.declared.Verdict.TheVariants.{Refused as RefusedCheck}
use Rattle.qcow2_portions.specs.Rows.{tables_rows}
use Rattle.qcow2_portion.specs.State.{portion, scratch_portion}
use Rattle.qcow2_portion.specs.declared.CheckState.{CheckState}
use Rattle.qcow2_portion.specs.declared.CheckState.TheVariants.{New}

-- ---- portions that may take so many entries each, one after another, with image and run unchanged: state and scratch are handed on
unfoldable pub state_after : (backing s : List ℕ) → List ℕ → CheckState → (scratch : List ℕ) → CheckState
state_after backing s [] st z = st
state_after backing s (m ∷ ms) st z = state_after backing s ms (portion backing s st z m).state (scratch_portion backing s st z m)

unfoldable pub scratch_after : (backing s : List ℕ) → List ℕ → CheckState → (scratch : List ℕ) → List ℕ
scratch_after backing s [] st z = z
scratch_after backing s (m ∷ ms) st z = scratch_after backing s ms (portion backing s st z m).state (scratch_portion backing s st z m)

-- what holds of one more portion, of at most m entries, after those of ms from a new state on
pub record Cut (backing s z ms : List ℕ) (m : ℕ) : Type 0 where
  -- a verdict is the check's, and the scratch is as the check leaves it
  pub told : (v : Verdict)
      → (portion backing s (state_after backing s ms New z) (scratch_after backing s ms New z) m).answer ≡ Ok (Some v)
      → (v ≡ check backing s (length z)) × (scratch_after backing s (ms ++ m ∷ []) New z ≡ scratch_left backing s z)
  -- a number is the check's, and nothing has changed
  pub refused : (k : ℕ)
      → (portion backing s (state_after backing s ms New z) (scratch_after backing s ms New z) m).answer ≡ Err k
      → (check backing s (length z) ≡ RefusedCheck k) × (scratch_after backing s (ms ++ m ∷ []) New z ≡ z)
  -- where each may take an entry, and there are at least as many portions before as entries, it is not unfinished
  pub ended : all (leb 1) ms ≡ true → 1 ≤ m → length (tables_rows s 0 (roots s)) ≤ length ms
      → (portion backing s (state_after backing s ms New z) (scratch_after backing s ms New z) m).answer ≡ (Ok None) → ⊥

-- for any image, run, scratch and cutting
abbrev pub Cutting : Type 0
Cutting = (backing s z ms : List ℕ) (m : ℕ) → Cut backing s z ms m
