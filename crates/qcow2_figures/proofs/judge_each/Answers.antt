use native.Mathlib.Omega.{arith}
use native.Mathlib.Nat.{add-zero, mul-le-mul_left}
use Prim.Native.Nat.{ℕ, ◌+◌, ◌*◌, ◌^◌, ◌≤◌}
use mathlib.Core.Path.{◌≡◌, sym, ap, ◌∙◌}
use lib.ListN.{length}
use Rattle.packed_twos.specs.Twos.{figures_in}
use Rattle.qcow2_spec.specs.Counts.{count_of}
use Rattle.qcow2_figures.specs.Known.{Judging}
use Rattle.qcow2_counts.proofs.Blocks.{packed-inside}
use Rattle.qcow2_figures.proofs.Compares.{length-figures, judging_next, judged-all, judged-on}
use Rattle.qcow2_figures.proofs.judge_each.Goals as goal
use Rattle.qcow2_figures.proofs.judge_each.Goals.{After-count_one-d, In-loop-j}

pub loop-j-init : goal.loop-j-init
loop-j-init c = rw add-zero c.requires.1.1

-- no place is past the image's end
room : (c : In-loop-j) → c.args.at + c.power-width.result * c.loop-j.j ≤ 8 * length c.args.image.now
room c =
    let w = 2 ^ c.args.order in
    let j = c.loop-j.j in
    let e : c.power-width.result * j ≡ w * j = ap (λ (x : ℕ). x * j) c.power-width.ensures.0 in
    let h : j ≤ c.args.m = omega arith in
    omega (arith, mul-le-mul_left w h, c.requires.0.inside)

pub overflow_mul-width : goal.overflow_mul-width
overflow_mul-width c = omega (arith, room (goal.at.overflow_mul-width c).In-loop-j, c.requires.0.short)

pub overflow_add-at : goal.overflow_add-at
overflow_add-at c = omega (arith, room (goal.at.overflow_add-at c).In-loop-j, c.requires.0.short)

pub load-stored-requires : goal.load-stored-requires
load-stored-requires c = rw c.power-width.ensures.0 (packed-inside c.requires.0 c.loop-j.j (omega arith))

pub count_one-d-requires : goal.count_one-d-requires
count_one-d-requires c = omega (arith, c.loop-j.invariant.few, c.requires.1.0)

-- once a count more is looked at
next : (c : After-count_one-d) → Judging c.args.image.now (figures_in c.args.scratch.now) (c.args.base + (c.loop-j.j + 1)) c.count_one-d.result
next c =
    let a = c.args in
    let s = a.image.now in
    let k = a.base + c.loop-j.j in
    let e : count_of s k ≡ c.load-stored.result = c.requires.0.stands c.loop-j.j (omega arith) ∙ sym (rw c.power-width.ensures.0 at c.load-stored.ensures) in
    let g : a.base + (c.loop-j.j + 1) ≡ k + 1 = omega arith in
    rw g
    (judging_next s a.scratch.now k c.load-stored.result c.load16-figure.result c.loop-j.d c.count_one-d.result (omega (arith, c.requires.1.0.0)) c.loop-j.invariant e
    c.load16-figure.ensures c.count_one-d.ensures)

pub returns-then-d-clusters : goal.returns-then-d-clusters
returns-then-d-clusters c =
    let a = c.args in
    let f = a.scratch.now in
    judged-on (judged-all a.image.now (figures_in f) (next (goal.at.returns-then-d-clusters c).After-count_one-d)) (omega (arith, c.if-d-clusters.true, length-figures f)) (a.base + a.m)

pub loop-j-preserved : goal.loop-j-preserved
loop-j-preserved c = next (goal.at.loop-j-preserved c).After-count_one-d

pub returns : goal.returns
returns c =
    let a = c.args in
    let e : c.loop-j.j ≡ a.m = omega arith in
    judged-all a.image.now (figures_in a.scratch.now) (rw e at c.loop-j.invariant)
