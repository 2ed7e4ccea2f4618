use Rattle.qcow2_header.specs.Chain.{from19}
use Rattle.qcow2_header.proofs.judge_backing.Goals as goal

pub returns-then-missing : goal.returns-then-missing
unfolding from19
returns-then-missing c = rw c.if-missing.true cc

pub returns : goal.returns
unfolding from19
returns c = rw c.if-missing.false c.judge_snapshots.ensures
