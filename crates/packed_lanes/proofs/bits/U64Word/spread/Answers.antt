use Rattle.std.proofs.Common.{arith}
use Rattle.packed_lanes.proofs.Spread.{spread8}
use Rattle.packed_lanes.proofs.bits.U64Word.spread.Goals as goal

pub returns : goal.returns
returns c = rw c.from-x.ensures (spread8 c.args.x (omega arith))
