use native.Mathlib.Omega.{arith}
use Prim.Native.Nat.{ℕ, ◌+◌, ◌≤◌, ◌<◌}
use mathlib.Core.Path.{refl, ◌∙◌}
use Rattle.packed_twos.specs.Twos.{many, figures_in}
use Rattle.packed_twos.proofs.Laws.{many_lent, figures_lent}
use Rattle.qcow2_repair.proofs.Midway.{state_first, state_next, state_last, found-reach}
use Rattle.qcow2_repair.proofs.repair.Goals as goal

pub loop-i-init : goal.loop-i-init
loop-i-init c = let a = c.args in (omega arith, (refl, state_first a.g a.image.now (figures_in a.refs.now) a.allowance))

pub group_of-m-requires : goal.group_of-m-requires
group_of-m-requires c = let p = c.requires.0 in ((omega (arith, p.low, p.narrow), p.high), omega arith)

pub overflow_add-i : goal.overflow_add-i
overflow_add-i c = omega (arith, c.requires.0.few)

pub slice_bounds-repair_block-end : goal.slice_bounds-repair_block-end
slice_bounds-repair_block-end c = omega (arith, c.requires.1)

pub repair_block-n-requires : goal.repair_block-n-requires
repair_block-n-requires c =
    let a = c.args in
    let l = a.image.now in
    let t = c.loop-i in
    let m = c.group_of-m in
    let i : ℕ = t.i in
    let n = many_lent a.refs.now i m.result (omega (arith, c.requires.1)) in
    let h : i < a.g.clusters = omega arith in (
      (found-reach a.g l (figures_in a.refs.now) c.requires.0 a.allowance i h t.image t.invariant.1.1.image, rw n m.ensures.0.1),
      (omega (arith, n, t.invariant.1.1.few, m.ensures.0.0.1, c.requires.0.few), rw n m.ensures.1),
    )

pub overflow_add-i-in-loop-i : goal.overflow_add-i-in-loop-i
overflow_add-i-in-loop-i c = omega (arith, c.requires.0.few)

pub loop-i-preserved : goal.loop-i-preserved
loop-i-preserved c =
    let a = c.args in
    let l = a.image.now in
    let t = c.loop-i in
    let m = c.group_of-m in
    let r = c.repair_block-n in
    let i : ℕ = t.i in
    let n = many_lent a.refs.now i m.result (omega (arith, c.requires.1)) in
    let b : i + m.result ≤ many a.refs.now = omega (arith, c.requires.1) in
    let h : i < a.g.clusters = omega arith in
    let e = rw n at r.ensures in (
      m.ensures.0.0.1,
      (
        r.auto.image ∙ t.invariant.1.0,
        state_next a.g l (figures_in a.refs.now) c.requires.0 a.allowance i h t.n t.image _ m.result r.result r.new.image t.invariant.1.1 m.ensures.0.0.1 m.ensures.0.1 (λ d u. figures_lent a.refs.now i m.result d b u) e.0 e.1,
      ),
    )

pub returns : goal.returns
returns c =
    let a = c.args in
    let t = c.loop-i in
    state_last a.g a.image.now (figures_in a.refs.now) a.allowance t.i t.n t.image _ t.invariant.1.1 (omega arith) c.end_of.ensures
