use native.Mathlib.Omega.{arith}
use mathlib.Core.Path.{sym, ap, ◌∙◌}
use Rattle.tally.specs.States.{step}
use Rattle.tally.proofs.Steps.{step-first}
use Rattle.visits.proofs.step.Goals as goal

pub returns-then-x-eq0 : goal.returns-then-x-eq0
returns-then-x-eq0 c =
    let a = c.args in
    sym (ap (step a.kind) c.if-x-eq0.true ∙ step-first a.kind (λ e. omega (arith, c.requires.0, e)))
