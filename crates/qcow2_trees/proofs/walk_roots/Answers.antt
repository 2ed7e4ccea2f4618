use native.Mathlib.Nat.{sub-zero}
use native.Mathlib.Omega.{arith}
use Prim.Native.Nat.{◌≤◌, ◌<◌}
use mathlib.Core.Path.{◌≡◌, sym, ◌∙◌}
use Rattle.qcow2_spec.specs.Header.{roots}
use Rattle.qcow2_fixed.proofs.Inside.{roots_are, shots-few}
use Rattle.qcow2_trees.proofs.Spots.{front-first}
use Rattle.qcow2_trees.proofs.Roots.{roots_turn, roots-none}
use Rattle.qcow2_trees.proofs.walk_roots.Goals as goal

pub loop-t-init : goal.loop-t-init
loop-t-init c = let a = c.args in (front-first a.states a.image.now, rw sub-zero)

pub overflow_add-t-end : goal.overflow_add-t-end
overflow_add-t-end c = omega (arith, shots-few c.args.g c.args.image.now c.requires.0.0)

pub next_root-f-requires : goal.next_root-f-requires
next_root-f-requires c =
    (((c.requires.0, omega (arith, c.loop-t-test.true, roots_are c.args.g c.args.image.now c.requires.0.0)), c.loop-t.auto.scratch ∙ c.requires.1), c.loop-t.invariant.0)

pub loop-t-preserved : goal.loop-t-preserved
loop-t-preserved c =
    let s = c.args.image.now in
    let i = c.loop-t.invariant in
    let h : c.loop-t.t < roots s = omega (arith, c.loop-t-test.true, roots_are c.args.g s c.requires.0.0) in
    (c.next_root-f.ensures.0, rw c.next_root-f.ensures.1 (sym (roots_turn c.args.states s (roots s) c.loop-t.t c.loop-t.scratch h) ∙ i.1))

pub returns : goal.returns
returns c =
    let s = c.args.image.now in
    let i = c.loop-t.invariant in
    let h : roots s ≤ c.loop-t.t = omega (arith, c.loop-t-test.false, roots_are c.args.g s c.requires.0.0) in
    let e : c.loop-t.t ≡ roots s = omega (arith, h, c.loop-t.auto.t-end, roots_are c.args.g s c.requires.0.0) in
    (rw e at i.0, sym (roots-none c.args.states s (roots s) c.loop-t.t c.loop-t.scratch h) ∙ i.1)
