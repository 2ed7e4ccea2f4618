use Rattle.std.proofs.Common.{rules, arith, ◌≡◌, length, get_or}
use Rattle.packed_filled.proofs.Filling.{filled2, byte-filled}
use Rattle.packed_filled.proofs.filled_halves.Goals as goal

pub loop-x-preserved : goal.loop-x-preserved
loop-x-preserved c =
    let B = c.args.block.now in
    let b = c.loop-x.x-index in
    let x = filled2 (get_or B b 0) (omega (arith, c.type_inv.block b)) in
    (search rules, omega (arith, c.loop-x.invariant.1, c.unlike8-low.ensures.0, c.unlike8-high.ensures.0, x, byte-filled 2 (omega arith) B b))

pub returns : goal.returns
returns c =
    let e : c.loop-x.x-index ≡ length c.args.block.now = omega arith in
    rw (← e) (omega (arith, c.loop-x.invariant.1))
