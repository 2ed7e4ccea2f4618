use Rattle.std.proofs.Common.{arith}
use Rattle.qcow2_groups.proofs.walk_entry.Goals as goal

pub walk_own-requires : goal.walk_own-requires
walk_own-requires c = c.requires.0

pub returns-then-kind-eq0 : goal.returns-then-kind-eq0
returns-then-kind-eq0 c = rw c.if-kind-eq0.true c.walk_own.ensures

pub walk_role-requires : goal.walk_role-requires
walk_role-requires c = (c.requires.0, (omega (arith, c.if-kind-eq0.false), c.requires.1))

pub returns : goal.returns
returns c = c.walk_role.ensures
