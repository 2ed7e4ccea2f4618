use Prim.Native.Nat.{◌-◌, ◌≤◌}
use mathlib.Core.Path.{◌≡◌}
use lib.ListN.{length, drop}
use Rattle.choice.specs.Pick.{all}
use Rattle.blank.proofs.Zeros.{is_zero}
use Rattle.blank.proofs.all_clear.Given as goal

abbrev pub invariant-loop-at : goal.invariant-loop-at
invariant-loop-at l = (l.at ≤ length l.part) × (all is_zero (drop l.at l.part) ≡ all is_zero l.part)

abbrev pub decreases-loop-at : goal.decreases-loop-at
decreases-loop-at l = length l.part - l.at
