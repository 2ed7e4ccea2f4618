use borrow.Author.Tests.{eq-eqb, ne_eqb}
use Rattle.qcow2_check.proofs.all_own.Goals as goal

pub returns-then-snapshots-eq0 : goal.returns-then-snapshots-eq0
returns-then-snapshots-eq0 c = rw (eq-eqb _ _ c.if-snapshots-eq0.true)

pub returns : goal.returns
returns c = rw (ne_eqb _ _ c.if-snapshots-eq0.false)
