use native.Mathlib.Omega.{arith}
use Prim.Native.Nat.{◌+◌, ◌≤◌}
use mathlib.Core.Path.{◌≡◌, refl, sym, ◌∙◌}
use mathlib.Core.Bool.{true≢false}
use lib.ListN.{length}
use Rattle.choice.proofs.Tests.{and-true}
use Rattle.qcow2_fixed.proofs.Runs.{few-clusters}
use Rattle.qcow2_lowest.specs.Lowest.{Clear}
use Rattle.qcow2_lowest.proofs.Lowest.{clear_none, clear_next, clear-all, lowest-found}
use Rattle.qcow2_bits.proofs.Bits.{room-least, same_next}
use Rattle.qcow2_bits.proofs.look.Goals as goal

pub loop-b-init : goal.loop-b-init
loop-b-init c = ((omega arith, refl), clear_none c.args.image.now, λ h. absurd (true≢false (sym h)), λ h k x y. absurd (omega arith))

pub overflow_mul-most : goal.overflow_mul-most
overflow_mul-most c =
    let o = c.requires.0.0.0.0 in
    omega (arith, c.min-most.ensures, o.short, few-clusters (length c.args.image.now) c.args.g.clusters c.args.g.bits o.whole)

pub overflow_sub-n : goal.overflow_sub-n
overflow_sub-n c = c.loop-b.invariant.0.0

pub look_window-w-requires : goal.look_window-w-requires
look_window-w-requires c =
    let t = c.loop-b in
    let n = c.args.g.clusters in
    let k = (rw c.min-most.ensures at c.min-k.ensures) ∙ room-least (length c.args.window.now) n t.b in
    (c.requires.0, (t.invariant.0.0, rw t.invariant.0.1 k))

pub returns-then-w-n : goal.returns-then-w-n
returns-then-w-n c =
    let t = c.loop-b in
    let w = c.look_window-w in
    let n = c.requires.0.0.0.0.is-clusters in (
      lowest-found c.args.image.now t.b (t.b + c.min-k.result) w.result.shared w.ensures.0 (omega (arith, c.if-w-n.true, n)) t.invariant.1,
      λ h. absurd (omega (arith, c.if-w-n.true, h)),
    )

pub overflow_add-b : goal.overflow_add-b
overflow_add-b c = omega (arith, c.min-k.ensures, c.loop-b.invariant.0.0)

pub loop-b-smaller : goal.loop-b-smaller
loop-b-smaller c = omega (arith, c.min-k.ensures, c.min-most.ensures, c.loop-b-test.true, c.requires.1)

pub loop-b-preserved : goal.loop-b-preserved
loop-b-preserved c =
    let s = c.args.image.now in
    let t = c.loop-b in
    let k = c.min-k.result in
    let w = c.look_window-w in
    let n = c.requires.0.0.0.0.is-clusters in
    let l : t.b + k ≤ c.args.g.clusters = omega (arith, t.invariant.0.0, c.min-k.ensures) in (
      (l, w.auto.window ∙ t.invariant.0.1),
      clear_next s t.b (t.b + k) w.result.shared w.ensures.0 (omega (arith, c.if-w-n.false, n)) (omega (arith, l, n)) t.invariant.1,
      w.ensures.1.0,
      λ h. let e = and-true t.same _ (h) in same_next s c.args.scratch.now t.b (t.b + k) (t.invariant.3 e.0) (w.ensures.1.1 e.1),
    )

pub returns : goal.returns
returns c =
    let s = c.args.image.now in
    let t = c.loop-b in
    let n = c.requires.0.0.0.0.is-clusters in
    let e : t.b ≡ c.args.g.clusters = omega (arith, t.invariant.0.0, c.loop-b-test.false) in
    let l : Clear s c.args.g.clusters = rw e at t.invariant.1 in
    (n ∙ clear-all s (rw n at l), λ h. (t.invariant.2, rw e at t.invariant.3))
