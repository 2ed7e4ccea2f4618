use Rattle.qcow2_header.specs.Chain.{from7}
use Rattle.qcow2_header.proofs.judge_features.Goals as goal

pub returns-then-has_features : goal.returns-then-has_features
unfolding from7
returns-then-has_features c = rw (← c.has_features.ensures, c.if-has_features.true) cc

pub returns : goal.returns
unfolding from7
returns c = rw (← c.has_features.ensures, c.if-has_features.false, ← c.bad_backing.ensures) c.judge_disk.ensures
