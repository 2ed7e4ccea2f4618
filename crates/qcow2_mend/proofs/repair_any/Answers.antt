use Rattle.qcow2_mend.proofs.repair_any.Goals as goal

pub repair_packed-requires : goal.repair_packed-requires
repair_packed-requires c = (c.requires.0, (c.if-at-eq0.true, c.requires.1))

pub returns-then-at-eq0 : goal.returns-then-at-eq0
returns-then-at-eq0 c = c.repair_packed.ensures

pub repair_each-requires : goal.repair_each-requires
repair_each-requires c = c.requires.0

pub returns : goal.returns
returns c = c.repair_each.ensures
