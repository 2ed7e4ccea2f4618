use native.Mathlib.Omega.{arith}
use Prim.Native.Nat.{◌^◌}
use Rattle.window.specs.Window.{board}
use Rattle.qcow2_fixed.proofs.Runs.{named_none, named_some}
use Rattle.qcow2_fixed.proofs.visit_place.Goals as goal

pub returns-then-p-eq0 : goal.returns-then-p-eq0
returns-then-p-eq0 c =
    let a = c.args in
    named_none a.kind a.b (2 ^ a.bits) a.p (board a.target.now a.low) (omega arith)

pub returns : goal.returns
returns c =
    let a = c.args in
    rw (c.visit.ensures, c.quotient.ensures.0) (named_some a.kind a.b (2 ^ a.bits) a.p (board a.target.now a.low) c.if-p-eq0.false)
