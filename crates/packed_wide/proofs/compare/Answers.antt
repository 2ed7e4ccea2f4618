use Rattle.packed_wide.proofs.compare.Goals as goal

pub numbers16-requires : goal.numbers16-requires
numbers16-requires c = rw c.if-order-eq4.true at c.requires

pub returns-then-order-eq4 : goal.returns-then-order-eq4
returns-then-order-eq4 c = rw c.if-order-eq4.true c.numbers16.ensures
