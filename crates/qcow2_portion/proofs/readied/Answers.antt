use mathlib.Core.Path.{refl}
use Rattle.qcow2_portion.proofs.readied.Goals as goal

pub returns-then-later : goal.returns-then-later
returns-then-later c = rw c.if-later.true refl

pub begin-requires : goal.begin-requires
begin-requires c = c.requires

pub returns : goal.returns
returns c = rw c.if-later.false c.begin.ensures
