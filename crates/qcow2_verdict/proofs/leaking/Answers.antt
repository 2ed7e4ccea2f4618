use borrow.Author.Tests.{lt-ltb, le-ltb}
use Rattle.qcow2_verdict.proofs.leaking.Goals as goal

pub returns-then-over-gt0 : goal.returns-then-over-gt0
returns-then-over-gt0 c = rw (lt-ltb _ _ c.if-over-gt0.true)

pub returns : goal.returns
returns c = rw (le-ltb _ _ c.if-over-gt0.false)
