use mathlib.Core.Path.{sym, ap, ◌∙◌}
use Rattle.qcow2_kept.specs.Kept.{verdict_of}
use Rattle.qcow2_kept.proofs.Bytes.{state_new, state_going, state_finished}
use Rattle.qcow2_kept.proofs.load.Goals as goal

pub returns-then-stage-eq0 : goal.returns-then-stage-eq0
returns-then-stage-eq0 c = state_new c.args.bytes.now (sym c.load64-stage.ensures ∙ c.if-stage-eq0.true)

pub returns-then-stage-eq1 : goal.returns-then-stage-eq1
returns-then-stage-eq1 c =
    state_going c.args.bytes.now (sym c.load64-stage.ensures ∙ c.if-stage-eq1.true) _ _ _ c.load64-root.ensures c.load64-row.ensures (c.verdict_of-v.ensures ∙ ap verdict_of c.numbers_at.ensures)

pub returns : goal.returns
returns c =
    let e = c.load64-stage.ensures in
    state_finished c.args.bytes.now (λ z. c.if-stage-eq0.false (e ∙ z)) (λ z. c.if-stage-eq1.false (e ∙ z)) _ (c.verdict_of-v.ensures ∙ ap verdict_of c.numbers_at.ensures)
