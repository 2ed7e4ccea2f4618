use native.Mathlib.Omega.{arith}
use borrow.Author.Tests.{eq-eqb, ne_eqb}
use Rattle.endian.specs.Big.{be32}
use Rattle.qcow2_spec.specs.Header.{version, count_order}
use Rattle.qcow2_fields.proofs.order_of.Goals as goal

pub returns-then-load32-ne3 : goal.returns-then-load32-ne3
unfolding count_order version
returns-then-load32-ne3 c = rw (ne_eqb (be32 c.args.image.now 4) 3 (λ e. omega arith))

pub returns : goal.returns
unfolding count_order version
returns c = rw (eq-eqb (be32 c.args.image.now 4) 3 (omega arith)) c.load32-2.ensures
