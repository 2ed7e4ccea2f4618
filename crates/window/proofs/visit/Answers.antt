use mathlib.Core.Path.{◌∙◌}
use Rattle.window.specs.Window.{board}
use Rattle.window.proofs.Steps.{visit_before, visit_bits, visit_numbers}
use Rattle.window.proofs.visit.Goals as goal

pub returns-then-c-b : goal.returns-then-c-b
returns-then-c-b c = let a = c.args in visit_before a.kind a.b a.c (board a.target.now a.low) c.if-c-b.true

pub returns-then-kind-eq-BITS : goal.returns-then-kind-eq-BITS
returns-then-kind-eq-BITS c = let a = c.args in c.visit_bit.ensures ∙ visit_bits a.kind a.b a.c (board a.target.now a.low) c.if-c-b.false c.if-kind-eq-BITS.true

pub returns : goal.returns
returns c = let a = c.args in c.visit_number.ensures ∙ visit_numbers a.kind a.b a.c (board a.target.now a.low) c.if-c-b.false c.if-kind-eq-BITS.false
