-- `qcow2_phases::touches` meets its contract. Assumes nothing.
use Rattle.qcow2_phases.proofs.Meets.{meets-zero, meets_from, meets-empty, meets_to}
use Rattle.qcow2_phases.proofs.touches.Goals as goal

pub returns-then-len-eq0 : goal.returns-then-len-eq0
returns-then-len-eq0 c = let a = c.args in meets-zero a.a a.n a.at a.len c.if-len-eq0.true

pub returns-then-a-at : goal.returns-then-a-at
returns-then-a-at c = let a = c.args in meets_from a.a a.n a.at a.len c.if-len-eq0.false c.if-a-at.true

pub returns-then-n-eq0 : goal.returns-then-n-eq0
returns-then-n-eq0 c = let a = c.args in meets-empty a.a a.n a.at a.len c.if-n-eq0.true c.if-a-at.false

pub returns : goal.returns
returns c = let a = c.args in meets_to a.a a.n a.at a.len c.if-a-at.false c.if-n-eq0.false
