use native.Mathlib.Omega.{arith}
use Rattle.qcow2_kept.proofs.ByKind.{kind_4, kind_5, kind_6, kind_7, kind_more}
use Rattle.qcow2_kept.proofs.later_of.Goals as goal

pub returns-then-n-eq4 : goal.returns-then-n-eq4
returns-then-n-eq4 c = kind_4 c.args.n c.if-n-eq4.true

pub returns-then-n-eq5 : goal.returns-then-n-eq5
returns-then-n-eq5 c = kind_5 c.args.n c.if-n-eq5.true

pub returns-then-n-eq6 : goal.returns-then-n-eq6
returns-then-n-eq6 c = kind_6 c.args.n c.if-n-eq6.true

pub returns-then-n-eq7 : goal.returns-then-n-eq7
returns-then-n-eq7 c = kind_7 c.args.n c.if-n-eq7.true

pub returns : goal.returns
returns c = kind_more c.args.n (omega (arith, c.if-n-eq4.false, c.if-n-eq5.false, c.if-n-eq6.false, c.if-n-eq7.false, c.requires))
