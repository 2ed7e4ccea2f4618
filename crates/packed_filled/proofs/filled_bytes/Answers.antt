use Rattle.std.proofs.Common.{◌≡◌, ◌+◌, refl, sym, ap, ◌∙◌, arith, mul-zero, length}
use mathlib.Core.Path.{ap₂}
use Rattle.packed_filled.specs.Filled.{filled_in}
use Rattle.packed_filled.proofs.Filling.{byte-filled}
use Rattle.packed_filled.proofs.filled_bytes.Goals as goal

pub loop-x-init : goal.loop-x-init
loop-x-init c = (omega arith, rw mul-zero refl)

pub loop-x-preserved : goal.loop-x-preserved
loop-x-preserved c =
    let o = c.args.order in
    let e = ap₂ ◌+◌ c.loop-x.invariant.1 (c.filled_in-n.ensures.0 ∙ ap (filled_in o) c.from.ensures) in
    (omega arith, e ∙ sym (byte-filled o (omega (arith, c.requires.0)) c.args.block.now c.loop-x.x-index))

pub returns : goal.returns
returns c =
    let e : c.loop-x.x-index ≡ length c.args.block.now = omega arith in
    rw (← e) c.loop-x.invariant.1
