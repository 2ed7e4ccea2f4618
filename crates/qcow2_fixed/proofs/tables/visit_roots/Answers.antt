use native.Mathlib.Omega.{arith}
use Prim.Native.Nat.{◌<◌}
use mathlib.Core.Path.{sym, ◌∙◌}
use Rattle.window.specs.Window.{board}
use Rattle.qcow2_spec.specs.Header.{roots}
use Rattle.qcow2_spec.specs.References.{root_run}
use Rattle.qcow2_fixed.proofs.Runs.{roots_turn, roots_end}
use Rattle.qcow2_fixed.proofs.Inside.{roots_are, shots-few}
use Rattle.qcow2_fixed.proofs.tables.visit_roots.Goals as goal

pub overflow_add-t-end : goal.overflow_add-t-end
overflow_add-t-end c =
    omega (arith, shots-few c.args.g c.args.image.now c.requires.0.0)

pub root_at-r-requires : goal.root_at-r-requires
root_at-r-requires c =
    (c.requires.0, omega (arith, c.loop-t-test.true, roots_are c.args.g c.args.image.now c.requires.0.0))

pub loop-t-preserved : goal.loop-t-preserved
loop-t-preserved c =
    let t = c.loop-t in
    let a = c.args in
    let s = a.image.now in
    let h : t.t < roots s = omega (arith, c.loop-t-test.true, roots_are a.g s c.requires.0.0) in
    let k = roots_turn a.kind a.b (root_run s) (roots s) t.t (board t.target t.least) h in
    rw (c.visit_root-least.ensures, c.root_at-r.ensures.1) (sym k ∙ t.invariant)

pub returns : goal.returns
returns c =
    let t = c.loop-t in
    let a = c.args in
    let s = a.image.now in
    sym (roots_end a.kind a.b (root_run s) (roots s) t.t (board t.target t.least) (omega (arith, c.loop-t-test.false, roots_are a.g s c.requires.0.0))) ∙ t.invariant
