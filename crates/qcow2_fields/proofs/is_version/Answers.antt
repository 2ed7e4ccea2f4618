use borrow.Author.Tests.{eq-eqb, ne_eqb}
use Rattle.qcow2_fields.proofs.is_version.Goals as goal

pub returns-then-v-eq2 : goal.returns-then-v-eq2
returns-then-v-eq2 c = rw (eq-eqb _ 2 c.if-v-eq2.true)

pub returns : goal.returns
returns c = rw (ne_eqb _ 2 c.if-v-eq2.false)
