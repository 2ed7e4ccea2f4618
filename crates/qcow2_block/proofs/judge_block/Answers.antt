use native.Mathlib.Omega.{arith}
use native.Mathlib.Nat.{add-zero, sub-zero}
use Prim.Native.Nat.{◌+◌}
use mathlib.Core.Path.{◌≡◌}
use Rattle.packed_twos.specs.Twos.{figures_in}
use Rattle.qcow2_figures.proofs.Compares.{length-figures, judged-all, judged-on}
use Rattle.qcow2_block.proofs.judge_block.Goals as goal

pub loop-w-init : goal.loop-w-init
loop-w-init c =
    let p = c.requires in
    (record { few = omega arith; stands = λ h. rw (add-zero, sub-zero) p.0; most = omega arith; least = omega arith; eights = omega arith }, rw add-zero p.1.1)

pub judge_next-w-requires : goal.judge_next-w-requires
judge_next-w-requires c =
    let t = c.loop-w.invariant in
    let p = c.requires in
    (((t.0, c.loop-w-test.true), t.1), p.1.0)

pub returns-then-d-clusters : goal.returns-then-d-clusters
returns-then-d-clusters c = let a = c.args in judged-on c.judge_next-w.ensures.0.1 (omega (arith, c.if-d-clusters.true, length-figures a.scratch.now)) (a.base + a.m)

pub loop-w-preserved : goal.loop-w-preserved
loop-w-preserved c =
    let r = c.judge_next-w.ensures.0 in
    (r.0, r.1.none (omega (arith, c.if-d-clusters.false, length-figures c.args.scratch.now)))

pub returns : goal.returns
returns c =
    let t = c.loop-w in
    let a = c.args in
    let e : t.w.done ≡ a.m = omega (arith, t.invariant.0.few, c.loop-w-test.false) in
    judged-all a.image.now (figures_in a.scratch.now) (rw e at t.invariant.1)
