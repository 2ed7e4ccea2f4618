use native.Mathlib.Omega.{arith}
use Rattle.visits.proofs.Unpacks.{unpacking_first, unpacking_next, unpacking_last}
use Rattle.visits.proofs.unpack.Goals as goal

pub loop-k-init : goal.loop-k-init
loop-k-init c = unpacking_first _

pub loop-k-preserved : goal.loop-k-preserved
loop-k-preserved c =
    let a = c.args in
    unpacking_next a.scratch.now c.loop-k.k c.loop-k.scratch _ (omega arith) c.loop-k.invariant c.unpack_one.ensures

pub returns : goal.returns
returns c =
    unpacking_last c.args.scratch.now c.loop-k.scratch c.loop-k.k c.requires (omega arith) c.loop-k.invariant
