use native.Mathlib.Omega.{arith}
use Prim.Native.Nat.{◌+◌, ◌*◌}
use mathlib.Core.Path.{◌≡◌}
use Rattle.bit_figures.proofs.Laws.{alike_none, alike_less, alike_append}
use Rattle.bit_figures.proofs.groups.Goals as goal

pub loop-g-init : goal.loop-g-init
loop-g-init c = alike_none _ _ _ _ (omega arith)

pub loop-g-preserved : goal.loop-g-preserved
loop-g-preserved c =
    let g = c.loop-g.g in
    let d : 8 * (32 * g) ≡ 256 * g = omega arith in
    let e : 256 * (g + 1) ≡ 256 * g + 256 = omega arith in
    rw e (alike_append _ _ _ _ _ c.loop-g.invariant (rw d at (c.group.ensures c.if-group-ne0.false)))

pub returns : goal.returns
returns c = λ h. alike_less _ _ _ _ _ (omega arith) c.loop-g.invariant
