use native.Mathlib.Omega.{arith}
use Prim.Native.Nat.{◌+◌, ◌*◌, ◌≤◌}
use Rattle.packed_twos.specs.Twos.{many, figures_in}
use Rattle.qcow2_counts.specs.Blocks.{Packed}
use Rattle.qcow2_figures.proofs.Compares.{judged-all}
use Rattle.qcow2_block.proofs.Steps.{step-packed, stepped, finer_goes}
use Rattle.qcow2_block.proofs.judge_next.Goals as goal
use Rattle.qcow2_block.proofs.judge_next.Goals.{After-min-k}

-- the counts of this step
stands : (c : After-min-k) → Packed c.args.order c.args.image.now (c.args.base + c.args.w.done) c.min-k.result (8 * c.args.w.at)
stands c = step-packed c.args.order c.args.image.now c.args.base c.args.m c.args.w c.requires.0.0.0 c.requires.0.0.1 c.min-k.result c.min-k.ensures

room : (c : After-min-k) → c.args.base + c.args.w.done + c.min-k.result ≤ many c.args.scratch.now
room c = omega (arith, c.min-k.ensures, c.requires.1.0, c.requires.0.0.1)

pub compared-p-requires : goal.compared-p-requires
compared-p-requires c =
    let g = c.requires.0.0.0 in
    ((stands (goal.at.compared-p-requires c).After-min-k, room (goal.at.compared-p-requires c).After-min-k), omega (arith, c.min-k.ensures, g.most))

pub judge_on-requires : goal.judge_on-requires
judge_on-requires c = let p = stands (goal.at.judge_on-requires c).After-min-k in (p.narrow, (omega (arith, room (goal.at.judge_on-requires c).After-min-k, c.requires.1.1), omega (arith, p.inside, p.short)))

pub returns-then-p-eq0 : goal.returns-then-p-eq0
returns-then-p-eq0 c =
    let a = c.args in
    let i = a.image.now in
    let f = figures_in a.scratch.now in
    let p = c.requires.0 in
    let l = c.min-k in
    stepped a.order i a.base a.m a.w p.0.0 p.0.1 l.result l.ensures f _ c.judge_on.result c.judge_on.ensures
    (judged-all i f (c.compared-p.ensures c.if-p-eq0.true a.w.counted p.1))

pub returns-then-k-gt64 : goal.returns-then-k-gt64
returns-then-k-gt64 c =
    let a = c.args in
    let i = a.image.now in
    let p = c.requires.0 in
    let l = c.min-k in
    ((finer_goes a.order i a.base a.m a.w p.0.0 p.0.1 l.result l.ensures _, judged-all i (figures_in a.scratch.now) p.1), omega (arith, l.ensures, c.if-k-gt64.true))

pub overflow_mul-w : goal.overflow_mul-w
overflow_mul-w c = let p = stands (goal.at.overflow_mul-w c).After-min-k in omega (arith, p.inside, p.short)

pub judge_each-each-requires : goal.judge_each-each-requires
judge_each-each-requires c = (stands (goal.at.judge_each-each-requires c).After-min-k, ((room (goal.at.judge_each-each-requires c).After-min-k, c.requires.1.1), c.requires.0.1))

pub judge_on-requires-2 : goal.judge_on-requires-2
judge_on-requires-2 c = let p = stands (goal.at.judge_on-requires-2 c).After-min-k in (p.narrow, (omega (arith, room (goal.at.judge_on-requires-2 c).After-min-k, c.requires.1.1), omega (arith, p.inside, p.short)))

pub returns : goal.returns
returns c =
    let a = c.args in
    let p = c.requires.0 in
    let l = c.min-k in
    stepped a.order a.image.now a.base a.m a.w p.0.0 p.0.1 l.result l.ensures (figures_in a.scratch.now) _ c.judge_on-2.result c.judge_on-2.ensures c.judge_each-each.ensures
