-- The phase of an entry by tests, one after the other. Assumes nothing.
use Prim.Native.Nat.{ℕ}
use mathlib.Core.Path.{◌≡◌}
use mathlib.Core.Bool.{Bool, true, false}
use mathlib.Core.List.{List, [], ◌∷◌}
use Rattle.qcow2_spec.specs.Steps.{Extent}
use Rattle.qcow2_batches.specs.Batch.{meets}
use Rattle.qcow2_phases.proofs.Meets.{meets_append}
use Rattle.qcow2_shown.specs.Shown.{shown_in}

module _ (at : ℕ) (b : Bool) where
  pub shown-one : (ys : List Extent) → b ≡ meets ys at 8 → b ≡ true → 1 ≡ shown_in ys at
  unfolding shown_in
  shown-one ys e f = rw (← e, f)

  pub shown-two : (ys : List Extent) → b ≡ meets ys at 8 → b ≡ false → 2 ≡ shown_in ys at
  unfolding shown_in
  shown-two ys e f = rw (← e, f)

  -- one more extent
  module _ (y : Extent) (ys : List Extent) (e : b ≡ meets (y ∷ []) at 8) where
    pub shown_hit : b ≡ true → 1 ≡ shown_in (y ∷ ys) at
    unfolding shown_in
    shown_hit f = rw (meets_append (y ∷ []) ys at 8, ← e, f)

    pub shown_miss : (r : ℕ) → b ≡ false → r ≡ shown_in ys at → r ≡ shown_in (y ∷ ys) at
    unfolding shown_in
    shown_miss r f g = rw (meets_append (y ∷ []) ys at 8, ← e, f) g
