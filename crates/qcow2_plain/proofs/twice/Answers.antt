use Rattle.std.proofs.Common.{arith}
use Rattle.qcow2_plain.specs.Plain.{bare}
use Rattle.qcow2_plain.proofs.twice.Goals as goal

pub returns : goal.returns
unfolding bare
returns c = omega arith
