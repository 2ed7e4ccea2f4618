use Rattle.std.proofs.Common.{arith, add-zero}
use Rattle.packed_lanes.specs.Sums.{sum}
use Rattle.packed_lanes.proofs.halves.U16Word.sum.Goals as goal

pub returns : goal.returns
unfolding sum
returns c = (simp add-zero, omega arith)
