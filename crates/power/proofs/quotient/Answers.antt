use mathlib.Core.Path.{refl}
use lib.Pow.{shr_le}
use Rattle.power.proofs.quotient.Goals as goal

pub returns : goal.returns
returns c = (refl, shr_le c.args.x c.args.bits)
