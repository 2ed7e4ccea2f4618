-- Where a shown name stands.
-- Assumes nothing.
use Prim.Native.Nat.{ℕ, ◌+◌, ◌≤◌}
use native.Mathlib.Omega.{arith}
use mathlib.Core.Path.{◌≡◌, refl}
use mathlib.Core.Bool.{Bool, true, false}
use mathlib.Core.List.{List, [], ◌∷◌}
use borrow.Author.Tests.{eqb-true, not-false}
use Rattle.choice.proofs.Tests.{if_yes, if_no}
use Rattle.qcow2_spec.specs.Header.{cluster_size, backing_offset, name_length, backed, some_lent, judge, judge_lent}
use Rattle.qcow2_spec.proofs.Backing.{named}
use Rattle.qcow2_backing.specs.Backing.{shown_length}

-- an accepted image has it inside its first cluster
pub shown-inside : (s : List ℕ) → judge_lent true s ≡ 0 → backing_offset s + shown_length s ≤ cluster_size s
unfolding shown_length backed judge some_lent
shown-inside s h = go (backed s) refl
  where
    go : (b : Bool) → backed s ≡ b → backing_offset s + shown_length s ≤ cluster_size s
    go true e = rw (if_yes (backed s) (name_length s) 0 e) (named (0 ∷ []) s h e).inside
    go false e = rw (if_no (backed s) (name_length s) 0 e) (omega (arith, eqb-true (backing_offset s) 0 (not-false _ e)))
