use native.Mathlib.Omega.{arith}
use Rattle.packed_figures.proofs.compare.Goals as goal

pub numbers16-requires : goal.numbers16-requires
numbers16-requires c = rw c.if-order-eq4.true at c.requires

pub returns-then-order-eq4 : goal.returns-then-order-eq4
returns-then-order-eq4 c = rw c.if-order-eq4.true c.numbers16.ensures

pub numbers32-requires : goal.numbers32-requires
numbers32-requires c = rw c.if-order-eq5.true at c.requires

pub returns-then-order-eq5 : goal.returns-then-order-eq5
returns-then-order-eq5 c = rw c.if-order-eq5.true c.numbers32.ensures

pub numbers64-requires : goal.numbers64-requires
numbers64-requires c = rw c.if-order-eq6.true at c.requires

pub returns-then-order-eq6 : goal.returns-then-order-eq6
returns-then-order-eq6 c = rw c.if-order-eq6.true c.numbers64.ensures

pub narrow-requires : goal.narrow-requires
narrow-requires c =
    (omega (arith, c.requires.0.0.few, c.if-order-eq6.false, c.if-order-eq5.false, c.if-order-eq4.false), c.requires)

pub returns : goal.returns
returns c = c.narrow.ensures
