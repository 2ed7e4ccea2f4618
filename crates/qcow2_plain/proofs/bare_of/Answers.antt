use Rattle.std.proofs.Common.{refl, arith}
use Rattle.qcow2_plain.specs.Plain.{bare}
use Rattle.qcow2_plain.proofs.bare_of.Goals as goal

pub returns : goal.returns
unfolding bare
returns c = (refl, omega arith)
