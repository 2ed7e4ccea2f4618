use native.Mathlib.Omega.{arith}
use lib.Seq.{length-take-le}
use Rattle.packed_zerobytes.proofs.Holding.{half-next}
use Rattle.packed_zerobytes.proofs.some_halves.Goals as goal

pub loop-x-preserved : goal.loop-x-preserved
loop-x-preserved c =
    let a = c.args in
    let i = c.loop-x.x-index in
    rw (c.min-low.ensures, c.min-least.ensures)
    (half-next a.part.now a.n i c.loop-x.low c.loop-x.least (omega (arith, length-take-le a.n a.part.now c.requires)) (omega (arith, c.type_inv.part i)) c.loop-x.invariant)
