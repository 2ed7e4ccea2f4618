use Rattle.std.proofs.Common.{arith}
use Rattle.packed.specs.Lanes.{lanes}
use Rattle.packed_lanes.proofs.bits.U64Word.plus.Goals as goal

pub overflow_add-result : goal.overflow_add-result
unfolding lanes
overflow_add-result c = omega (arith, c.requires)
