use Rattle.std.proofs.Common.{rules, arith, ◌≡◌, length}
use Rattle.packed_filled.proofs.Filling.{whole-filled}
use Rattle.packed_filled.proofs.filled_whole.Goals as goal

pub loop-x-preserved : goal.loop-x-preserved
loop-x-preserved c =
    let b = c.loop-x.x-index in
    (search rules, omega (arith, c.loop-x.invariant.1, c.unlike8-n.ensures.0, whole-filled c.args.block.now b (omega (arith, c.type_inv.block b))))

pub returns : goal.returns
returns c =
    let e : c.loop-x.x-index ≡ length c.args.block.now = omega arith in
    rw (← e) (omega (arith, c.loop-x.invariant.1))
