use native.Mathlib.Omega.{arith}
use Prim.Native.Nat.{◌+◌, ◌*◌}
use mathlib.Core.Path.{◌≡◌}
use Rattle.bit_figures.proofs.Laws.{alike_none, alike_less, alike_append}
use Rattle.bit_figures.proofs.bytes.Goals as goal

pub loop-j-init : goal.loop-j-init
loop-j-init c = alike_none _ _ _ _ (omega arith)

pub loop-j-preserved : goal.loop-j-preserved
loop-j-preserved c =
    let j = c.loop-j.j in
    let e : 8 * (j + 1) ≡ 8 * j + 8 = omega arith in
    rw e (alike_append _ _ _ _ _ c.loop-j.invariant (c.differ.ensures c.if-differ-ne0.false))

pub returns : goal.returns
returns c = λ h. alike_less _ _ _ _ _ (omega arith) c.loop-j.invariant
