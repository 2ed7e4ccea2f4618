use borrow.Author.Tests.{lt-ltb, le-ltb}
use Rattle.qcow2_refs.specs.Walks.{walked}
use Rattle.qcow2_refs.proofs.walk.passed.Goals as goal

pub returns-then-w : goal.returns-then-w
unfolding walked
returns-then-w c = rw (lt-ltb _ _ c.if-w.true)

pub returns : goal.returns
unfolding walked
returns c = rw (le-ltb _ _ c.if-w.false, c.front.ensures)
