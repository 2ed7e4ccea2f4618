use Rattle.std.proofs.Common.{arith}
use Rattle.widths.specs.Width.{field}
use Rattle.packed.specs.Lanes.{lanes, parts}
use Rattle.packed_lanes.proofs.halves.U16Word.spread.Goals as goal

pub returns : goal.returns
unfolding lanes parts field
returns c = omega (arith, c.from-x.ensures)
