use native.Mathlib.Omega.{arith}
use Rattle.packed_search.proofs.far_any.Goals as goal

pub pass-requires : goal.pass-requires
pass-requires c = (rw c.if-order-eq4.true at c.requires, (omega arith, omega arith))

pub returns-then-order-eq4 : goal.returns-then-order-eq4
returns-then-order-eq4 c = rw c.if-order-eq4.true c.pass.ensures
