use borrow.Author.Tests.{lt-ltb, le-ltb}
use native.Mathlib.Omega.{arith}
use Rattle.qcow2_trees.specs.Walks.{onward}
use Rattle.qcow2_trees.proofs.onward.Goals as goal

pub returns-then-f-t : goal.returns-then-f-t
unfolding onward
returns-then-f-t c = let a = c.args in rw (lt-ltb a.f.root a.t (omega (arith, c.if-f-t.true)))

pub returns-then-good-rows : goal.returns-then-good-rows
unfolding onward
returns-then-good-rows c =
    let a = c.args in
    rw (le-ltb a.f.root a.t (omega (arith, c.if-f-t.false)), lt-ltb a.good a.rows (omega (arith, c.if-good-rows.true)))

pub returns : goal.returns
unfolding onward
returns c =
    let a = c.args in
    rw (le-ltb a.f.root a.t (omega (arith, c.if-f-t.false)), le-ltb a.good a.rows (omega (arith, c.if-good-rows.false)))
