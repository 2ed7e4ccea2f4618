use borrow.Author.Rules.{rules}
use native.Mathlib.Omega.{arith}
use native.Mathlib.Nat.{zero-mul}
use Prim.Native.Nat.{◌*◌, ◌<◌}
use mathlib.Core.Path.{◌≡◌}
use lib.ListN.{length}
use Rattle.packed_twos.specs.Twos.{figures_in}
use Rattle.qcow2_figures.proofs.Compares.{judged-all, judged-on}
use Rattle.qcow2_fixed.proofs.Runs.{few-clusters}
use Rattle.qcow2_counts.proofs.Blocks.{at_block, some-per, block_packed, next_block}
use Rattle.qcow2_verdict.proofs.Figures.{length-is, judging_first}
use Rattle.qcow2_verdict.proofs.judge_blocks.Goals as goal
use Rattle.qcow2_verdict.proofs.judge_blocks.Goals.{In-loop-k}

pub per_block-per-requires : goal.per_block-per-requires
per_block-per-requires c = let o = c.requires.0 in (omega (arith, o.low, o.narrow), o.high)

pub loop-k-init : goal.loop-k-init
loop-k-init c = (search rules, rw zero-mul (omega arith), judging_first _ _ _ c.requires.1)

-- the block that the loop has come to
here : (c : In-loop-k) → (c.loop-k.b < c.args.g.blocks) × (c.loop-k.k ≡ c.loop-k.b * c.per_block-per.result)
here c =
    let t = c.loop-k in
    let p = c.per_block-per in
    at_block c.requires.0 p.result p.ensures t.b t.k t.invariant.1 c.loop-k-test.true

pub block_at-at-requires : goal.block_at-at-requires
block_at-at-requires c = (c.requires.0, (here (goal.at.block_at-at-requires c).In-loop-k).0)

pub judge_block-d-requires : goal.judge_block-d-requires
judge_block-d-requires c =
    let a = c.block_at-at in
    let t = c.loop-k in
    let p = c.per_block-per in
    let o = c.requires.0 in
    let g = c.args.g in
    let s = c.args.image.now in (
      block_packed o p.result p.ensures t.b t.k c.min-m.result a.result (here (goal.at.judge_block-d-requires c).In-loop-k).1 (omega (arith, c.min-m.ensures)) (here (goal.at.judge_block-d-requires c).In-loop-k).0 a.ensures.0 a.ensures.1,
      ((omega (arith, c.min-m.ensures, c.requires.1), omega (arith, c.requires.1, o.short, few-clusters (length s) g.clusters g.bits o.whole)), t.invariant.2),
    )

pub returns-then-d-n : goal.returns-then-d-n
returns-then-d-n c =
    judged-on c.judge_block-d.ensures (omega (arith, c.if-d-n.true, length-is c.args.scratch.now c.args.g.clusters c.requires.1)) c.args.g.clusters

pub overflow_add-k : goal.overflow_add-k
overflow_add-k c = omega (arith, c.min-m.ensures)

pub overflow_add-b : goal.overflow_add-b
overflow_add-b c = omega (arith, (here (goal.at.overflow_add-b c).In-loop-k).0, c.requires.0.blocks-read)

pub loop-k-smaller : goal.loop-k-smaller
loop-k-smaller c =
    let p = c.per_block-per in
    omega (arith, c.min-m.ensures, some-per c.requires.0 p.result p.ensures)

pub loop-k-preserved : goal.loop-k-preserved
loop-k-preserved c =
    let l = c.min-m in
    let t = c.loop-k in
    (omega (arith, l.ensures), next_block t.b _ _ t.k l.result t.invariant.1 c.loop-k-test.true l.ensures, c.judge_block-d.ensures.none (omega (arith, c.if-d-n.false, length-is c.args.scratch.now c.args.g.clusters c.requires.1)))

pub returns : goal.returns
returns c =
    let t = c.loop-k in
    let e : t.k ≡ c.args.g.clusters = omega arith in
    judged-all c.args.image.now (figures_in c.args.scratch.now) (rw e at t.invariant.2)
