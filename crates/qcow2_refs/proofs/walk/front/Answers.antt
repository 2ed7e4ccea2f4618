use borrow.Author.Tests.{eq-eqb, ne_eqb}
use mathlib.Core.Bool.{and-false}
use Rattle.qcow2_refs.proofs.walk.front.Goals as goal

pub returns-then-r-j : goal.returns-then-r-j
returns-then-r-j c = rw (c.if-good.true, eq-eqb _ _ c.if-r-j.true)

pub returns-else-r-j : goal.returns-else-r-j
returns-else-r-j c = rw (c.if-good.true, ne_eqb _ _ c.if-r-j.false)

pub returns-else-good : goal.returns-else-good
returns-else-good c = rw (c.if-good.false, and-false)
