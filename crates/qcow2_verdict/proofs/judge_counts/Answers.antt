use borrow.Author.Tests.{lt-ltb, le-ltb}
use native.Mathlib.Omega.{arith}
use mathlib.Core.Path.{refl, ◌∙◌}
use lib.ListN.{length}
use Rattle.choice.specs.Pick.{first, count}
use Rattle.packed_twos.specs.Twos.{figures_in}
use Rattle.tally.proofs.Counting.{counting_last}
use Rattle.qcow2_spec.specs.Check.{short, over}
use Rattle.qcow2_verdict.proofs.Figures.{length-is}
use Rattle.qcow2_verdict.proofs.Counts.{counts_tell}
use Rattle.qcow2_verdict.proofs.judge_counts.Goals as goal

pub returns-then-shared-n : goal.returns-then-shared-n
returns-then-shared-n c =
    let s = c.args.image.now in
    let f = figures_in c.args.scratch.now in
    let l = length-is c.args.scratch.now c.args.g.clusters c.requires.0.0.1 in
    rw (lt-ltb _ _ c.if-shared-n.true) at
    (counts_tell s f c.args.g.clusters c.args.shared (first (short s f) 0 (length f)) (count (over s f) 0 (length f)) l c.requires.0.0.0.0.is-clusters c.requires.0.1 refl refl)

pub judge_blocks-d-requires : goal.judge_blocks-d-requires
judge_blocks-d-requires c = (c.requires.0.0.0.0, c.requires.0.0.1)

pub returns-then-low-n : goal.returns-then-low-n
returns-then-low-n c =
    let d = c.judge_blocks-d in
    let s = c.args.image.now in
    let f = figures_in c.args.scratch.now in
    let l = length-is c.args.scratch.now c.args.g.clusters c.requires.0.0.1 in
    rw (le-ltb _ _ c.if-shared-n.false, lt-ltb _ _ c.if-low-n.true) at
    (counts_tell s f c.args.g.clusters c.args.shared d.result.low (count (over s f) 0 (length f)) l c.requires.0.0.0.0.is-clusters c.requires.0.1 (d.ensures.found (omega (arith, c.if-low-n.true, l))) refl)

pub judge_marks-requires : goal.judge_marks-requires
judge_marks-requires c =
    let p = c.requires.0 in
    (p.0, (c.requires.1.0, λ o. c.requires.1.1 o (omega (arith, c.if-shared-n.false, p.1, p.0.0.0.is-clusters))))

pub returns : goal.returns
returns c =
    let d = c.judge_blocks-d in
    let s = c.args.image.now in
    let f = figures_in c.args.scratch.now in
    let l = length-is c.args.scratch.now c.args.g.clusters c.requires.0.0.1 in
    let w = counting_last (short s f) (over s f) (length f) d.result (rw (← l) at (d.ensures.none (omega (arith, c.if-low-n.false, l)))) in
    c.judge_marks.ensures
    ∙ (rw (le-ltb _ _ c.if-shared-n.false, le-ltb _ _ c.if-low-n.false) at
    (counts_tell s f c.args.g.clusters c.args.shared d.result.low d.result.over l c.requires.0.0.0.0.is-clusters c.requires.0.1 w.0 w.1))
