use native.Mathlib.Omega.{arith}
use mathlib.Core.Path.{◌∙◌}
use Rattle.tally.proofs.Signs.{sign-is}
use Rattle.tally.proofs.against.compare.Goals as goal

pub returns : goal.returns
returns c = c.cmp.ensures ∙ sign-is _ c.args.stored c.args.figure c.difference.ensures (omega arith)
