use Rattle.std.proofs.Common.{rules, eq-eqb, ne_eqb}
use Rattle.qcow2_groups.proofs.marks.Goals as goal

pub returns-then-version-eq3 : goal.returns-then-version-eq3
returns-then-version-eq3 c = (rw (eq-eqb _ _ c.if-version-eq3.true), search rules)

pub returns-else-version-eq3 : goal.returns-else-version-eq3
returns-else-version-eq3 c = (rw (ne_eqb _ _ c.if-version-eq3.false), search rules)
