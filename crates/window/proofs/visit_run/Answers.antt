use native.Mathlib.Omega.{arith}
use Prim.Native.Nat.{◌+◌, ◌-◌}
use mathlib.Core.Path.{◌≡◌, sym, ◌∙◌}
use Rattle.tally.specs.Tally.{run}
use Rattle.window.specs.Window.{board, visit_all_in}
use Rattle.window.proofs.Steps.{run_turn, run_none}
use Rattle.window.proofs.visit_run.Goals as goal

-- stated with its 0, so that a run that begins elsewhere fails here
pub loop-j-init : goal.loop-j-init
loop-j-init c =
    let a = c.args in
    let e : a.i + 0 ≡ a.i = omega arith in
    let f : a.k - 0 ≡ a.k = omega arith in
    let w : visit_all_in a.kind a.b (run (a.i + 0) (a.k - 0)) (board a.target.now a.low) ≡ visit_all_in a.kind a.b (run a.i a.k) (board a.target.now a.low) = rw (e, f) in
    w

pub loop-j-preserved : goal.loop-j-preserved
loop-j-preserved c =
    let a = c.args in
    let e = run_turn a.kind a.b a.i a.k c.loop-j.j (board c.loop-j.target c.loop-j.least) (omega arith) in
    rw c.visit-least.ensures (sym e ∙ c.loop-j.invariant)

pub returns : goal.returns
returns c =
    let a = c.args in
    sym (run_none a.kind a.b a.i a.k c.loop-j.j (board c.loop-j.target c.loop-j.least) (omega arith)) ∙ c.loop-j.invariant
