use Rattle.std.proofs.Common.{arith, refl}
use Rattle.packed.specs.Lanes.{lanes}
use Rattle.packed_lanes.specs.Sums.{above}
use Rattle.packed_lanes.proofs.bits.U64Word.above.Goals as goal

pub overflow_sub-result : goal.overflow_sub-result
unfolding lanes
overflow_sub-result c = omega (arith, c.requires)

pub overflow_add-result : goal.overflow_add-result
unfolding lanes
overflow_add-result c = omega (arith, c.requires)

pub returns : goal.returns
unfolding lanes above
returns c = refl
