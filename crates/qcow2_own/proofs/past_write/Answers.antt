use borrow.Author.Tests.{lt-ltb, le-ltb}
use Rattle.qcow2_own.specs.Past.{past_write}
use Rattle.qcow2_own.proofs.past_write.Goals as goal

pub returns-then-g-x : goal.returns-then-g-x
unfolding past_write
returns-then-g-x c = rw (lt-ltb _ _ c.if-g-x.true)

pub returns-then-g-x-2 : goal.returns-then-g-x-2
unfolding past_write
returns-then-g-x-2 c = rw (le-ltb _ _ c.if-g-x.false, lt-ltb _ _ c.if-g-x-2.true)

pub returns : goal.returns
unfolding past_write
returns c = rw (le-ltb _ _ c.if-g-x.false, le-ltb _ _ c.if-g-x-2.false, c.power.ensures.0, c.rest-o.ensures.0)
