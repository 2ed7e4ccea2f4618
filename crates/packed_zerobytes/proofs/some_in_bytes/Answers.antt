use native.Mathlib.Omega.{arith}
use lib.Seq.{length-take-le}
use Rattle.packed_zerobytes.proofs.Holding.{byte_turn}
use Rattle.packed_zerobytes.proofs.some_in_bytes.Goals as goal

pub loop-x-preserved : goal.loop-x-preserved
loop-x-preserved c =
    let a = c.args in
    byte_turn a.order c.requires.0 a.part.now a.n c.loop-x.x-index (omega (arith, length-take-le a.n a.part.now c.requires.1)) c.loop-x.invariant c.holds-found.ensures
