use native.Mathlib.Omega.{arith}
use mathlib.Core.Path.{◌∙◌}
use Rattle.qcow2_guest.proofs.Steps.{row_in, row-entry}
use Rattle.qcow2_guest.proofs.l1_entry.Goals as goal

pub overflow_mul-i : goal.overflow_mul-i
overflow_mul-i c = omega (arith, row_in c.args.g c.args.image.now c.requires.0 c.args.guest c.requires.1)

pub overflow_add-g : goal.overflow_add-g
overflow_add-g c = omega (arith, row_in c.args.g c.args.image.now c.requires.0 c.args.guest c.requires.1)

pub load64-requires : goal.load64-requires
load64-requires c = omega (arith, row_in c.args.g c.args.image.now c.requires.0 c.args.guest c.requires.1)

pub returns : goal.returns
returns c =
    c.load64.ensures ∙ rw c.quotient-i.ensures.0 (row-entry c.args.g c.args.image.now c.requires.0 c.args.guest)
