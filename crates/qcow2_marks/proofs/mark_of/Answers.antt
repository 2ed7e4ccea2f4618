use borrow.Author.Tests.{eq-eqb, ne_eqb}
use Rattle.qcow2_marks.proofs.mark_of.Goals as goal

pub returns-then-figure-eq1 : goal.returns-then-figure-eq1
returns-then-figure-eq1 c = rw (eq-eqb c.args.figure 1 c.if-figure-eq1.true)

pub returns-else-figure-eq1 : goal.returns-else-figure-eq1
returns-else-figure-eq1 c = rw (ne_eqb c.args.figure 1 c.if-figure-eq1.false)
