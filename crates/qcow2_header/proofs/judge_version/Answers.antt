use Rattle.qcow2_spec.specs.Header.{version}
use Rattle.qcow2_header.specs.Chain.{from3}
use Rattle.qcow2_header.proofs.judge_version.Goals as goal

pub returns-then-is_version : goal.returns-then-is_version
unfolding from3 version
returns-then-is_version c =
    rw (← c.load32.ensures, ← c.is_version.ensures, c.if-is_version.true) c.judge_bits.ensures

pub returns : goal.returns
unfolding from3 version
returns c = rw (← c.load32.ensures, ← c.is_version.ensures, c.if-is_version.false) cc
