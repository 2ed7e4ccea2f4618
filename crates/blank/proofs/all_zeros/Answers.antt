use native.Mathlib.Omega.{arith}
use Rattle.blank.proofs.Zeros.{zeros-next, zeros_done}
use Rattle.blank.proofs.all_zeros.Goals as goal

pub loop-b-preserved : goal.loop-b-preserved
loop-b-preserved c =
    let l = c.loop-b in
    zeros-next c.args.part.now l.b-index l.seen (omega arith) l.invariant

pub returns : goal.returns
returns c =
    let l = c.loop-b in
    zeros_done c.args.part.now l.b-index l.seen (omega arith) l.invariant
