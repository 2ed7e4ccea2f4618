use native.Mathlib.Omega.{arith}
use Prim.Native.Nat.{◌+◌, ◌*◌}
use mathlib.Core.Path.{◌≡◌}
use Rattle.bit_figures.proofs.Laws.{or-none, alike_none, alike_append}
use Rattle.bit_figures.proofs.group.Goals as goal

pub loop-j-init : goal.loop-j-init
loop-j-init c = λ h. alike_none _ _ _ _ (omega arith)

pub loop-j-preserved : goal.loop-j-preserved
loop-j-preserved c =
    let t = c.loop-j in
    let i = c.args.i in
    let e : 8 * (i + (t.j + 1)) ≡ 8 * (i + t.j) + 8 = omega arith in
    λ h.
    let o = or-none t.found c.differ-found.result h in
    rw e (alike_append _ _ _ _ _ (t.invariant o.0) (c.differ-found.ensures o.1))

pub returns : goal.returns
returns c =
    let t = c.loop-j in
    let e : 8 * (c.args.i + t.j) ≡ 8 * c.args.i + 256 = omega arith in
    rw e at t.invariant
