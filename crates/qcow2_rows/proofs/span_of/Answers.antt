-- `qcow2_rows::span_of` meets its contract. Assumes nothing.
use Rattle.widths.specs.Width.{span}
use Rattle.qcow2_rows.proofs.span_of.Goals as goal

pub returns : goal.returns
unfolding span
returns c = rw (← c.power.ensures.0)
