use native.Mathlib.Omega.{arith}
use Rattle.qcow2_spec.proofs.Facts.{counts_power}
use Rattle.qcow2_fields.proofs.block_count.Goals as goal

pub returns : goal.returns
returns c =
    rw (c.quotient-2.ensures.0, c.quotient.ensures.0, c.power-per.ensures.0, counts_power c.args.bits c.args.order (omega (arith, c.requires.0.0)))
