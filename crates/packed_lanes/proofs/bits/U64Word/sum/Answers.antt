use Rattle.std.proofs.Common.{arith, add-zero, add_assoc}
use Rattle.std.proofs.Math.Nat.{div-div-eq-div-mul}
use Rattle.packed_lanes.specs.Sums.{sum}
use Rattle.packed_lanes.proofs.bits.U64Word.sum.Goals as goal

pub returns : goal.returns
unfolding sum
returns c = (simp (add-zero, add_assoc, div-div-eq-div-mul), omega arith)
