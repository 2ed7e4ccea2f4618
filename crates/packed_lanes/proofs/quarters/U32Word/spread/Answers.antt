use Rattle.std.proofs.Common.{arith}
use Rattle.packed_lanes.proofs.Spread.{spread4}
use Rattle.packed_lanes.proofs.quarters.U32Word.spread.Goals as goal

pub returns : goal.returns
returns c = rw c.from-x.ensures (spread4 c.args.x (omega arith))
