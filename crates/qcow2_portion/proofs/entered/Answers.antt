use mathlib.Core.Path.{◌∙◌}
use Rattle.qcow2_portion.proofs.entered.Goals as goal

pub readied-requires : goal.readied-requires
readied-requires c = c.requires

pub taken-requires : goal.taken-requires
taken-requires c = (c.requires.0, c.readied.auto.scratch ∙ c.requires.1)

pub returns : goal.returns
returns c =
    let t = c.taken.ensures in
    let e = c.readied.ensures in
    (rw e at t.0, rw e at t.1)
