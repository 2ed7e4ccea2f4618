use Rattle.qcow2_kept.proofs.ByKind.{kind_0, kind_1, kind_2, kind_3}
use Rattle.qcow2_kept.proofs.verdict_of.Goals as goal

pub returns-then-n-eq0 : goal.returns-then-n-eq0
returns-then-n-eq0 c = kind_0 c.args.n c.if-n-eq0.true

pub returns-then-n-eq1 : goal.returns-then-n-eq1
returns-then-n-eq1 c = kind_1 c.args.n c.if-n-eq1.true

pub returns-then-n-eq2 : goal.returns-then-n-eq2
returns-then-n-eq2 c = kind_2 c.args.n c.if-n-eq2.true

pub returns-then-n-eq3 : goal.returns-then-n-eq3
returns-then-n-eq3 c = kind_3 c.args.n c.if-n-eq3.true

pub returns : goal.returns
returns c = c.later_of.ensures
