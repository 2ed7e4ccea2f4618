use Prim.Native.Nat.{ℕ}
use mathlib.Core.Path.{sym, ap, ◌∙◌}
use Rattle.tally.specs.States.{visited}
use Rattle.tally.proofs.Steps.{visited-stored}
use Rattle.visits.proofs.visit.Goals as goal

pub returns-then-kind-eq0 : goal.returns-then-kind-eq0
returns-then-kind-eq0 c =
    let a = c.args in
    c.count_up.ensures ∙ sym (ap (λ (k : ℕ). visited k a.scratch.now a.c) c.if-kind-eq0.true)

pub returns : goal.returns
returns c =
    visited-stored c.args.kind _ _ _ _ _ c.requires.0 c.load16-x.ensures c.step.ensures c.store16.ensures
