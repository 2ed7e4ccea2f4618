use native.Mathlib.Omega.{arith}
use Prim.Native.Nat.{ℕ}
use mathlib.Core.Path.{ap, ◌∙◌}
use mir.Facts.{to_z-of_z}
use lib.IntN.{sub_ℕ}
use Rattle.tally.proofs.Signs.{diff_is, diff_fits}
use Rattle.tally.proofs.against.difference.Goals as goal

pub overflow_sub-result : goal.overflow_sub-result
overflow_sub-result c = diff_fits c.capped.result c.args.figure c.capped.ensures.1 (omega arith)

pub returns : goal.returns
returns c =
    let k = c.capped.result in
    let b = c.args.figure in
    to_z-of_z (diff_fits k b c.capped.ensures.1 (omega arith)) ∙ diff_is k b c.capped.ensures.1 (omega arith) ∙ ap (λ (x : ℕ). sub_ℕ x b) c.capped.ensures.0
