use Rattle.window.proofs.Steps.{number-outside, number-inside}
use Rattle.window.proofs.visit_number.Goals as goal

pub returns-then-target-j : goal.returns-then-target-j
returns-then-target-j c = let a = c.args in number-outside a.kind a.target.now a.low a.j c.if-target-j.true

pub returns : goal.returns
returns c = let a = c.args in number-inside a.kind a.target.now a.low a.j _ c.if-target-j.false c.visit.ensures
