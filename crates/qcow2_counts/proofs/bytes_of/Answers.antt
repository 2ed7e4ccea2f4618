use native.Mathlib.Omega.{arith}
use lib.Pow.{pow_mono}
use Rattle.qcow2_counts.proofs.bytes_of.Goals as goal

pub returns : goal.returns
returns c = omega (arith, c.power.ensures, pow_mono c.requires)
