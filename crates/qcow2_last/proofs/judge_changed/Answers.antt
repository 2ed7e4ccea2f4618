use borrow.Author.Tests.{lt-ltb, le-ltb}
use native.Mathlib.Omega.{arith}
use mathlib.Core.Path.{refl, sym, ◌∙◌}
use lib.ListN.{length}
use Rattle.choice.specs.Pick.{count}
use Rattle.packed_twos.specs.Twos.{figures_in}
use Rattle.tally.proofs.Counting.{counting_last}
use Rattle.qcow2_spec.specs.Check.{short, over}
use Rattle.qcow2_verdict.proofs.Figures.{length-is, figures_are}
use Rattle.qcow2_last.proofs.Last.{last_unshared, marks_wrong, marks-right}
use Rattle.qcow2_last.proofs.judge_changed.Goals as goal

pub judge_blocks-d-requires : goal.judge_blocks-d-requires
judge_blocks-d-requires c = (c.requires.0.0.0, c.requires.0.1)

pub returns-then-low-n : goal.returns-then-low-n
returns-then-low-n c =
    let d = c.judge_blocks-d in
    let s = c.args.image.now in
    let f = figures_in c.args.scratch.now in
    let l = length-is c.args.scratch.now c.args.g.clusters c.requires.0.1 in
    rw (lt-ltb _ _ c.if-low-n.true) at
    (last_unshared s f c.args.g.clusters d.result.low (count (over s f) 0 (length f)) l c.requires.0.0.0.is-clusters c.requires.1 (d.ensures.found (omega (arith, c.if-low-n.true, l))) refl)

pub first_wrong-v-requires : goal.first_wrong-v-requires
first_wrong-v-requires c = (c.requires.0.0, c.requires.0.1)

pub returns-then-is_sound : goal.returns-then-is_sound
returns-then-is_sound c =
    let d = c.judge_blocks-d in
    let s = c.args.image.now in
    let f = figures_in c.args.scratch.now in
    let l = length-is c.args.scratch.now c.args.g.clusters c.requires.0.1 in
    let w = counting_last (short s f) (over s f) (length f) d.result (rw (← l) at (d.ensures.none (omega (arith, c.if-low-n.false, l)))) in
    let v = c.first_wrong-v in
    let e = rw (figures_are c.args.scratch.now c.args.g.clusters c.requires.0.1) at v.ensures in
    c.leaking.ensures
    ∙ marks-right s f v.result _ e (sym c.is_sound.ensures ∙ c.if-is_sound.true)
    ∙ (rw (le-ltb _ _ c.if-low-n.false) at (last_unshared s f c.args.g.clusters d.result.low d.result.over l c.requires.0.0.0.is-clusters c.requires.1 w.0 w.1))

pub returns : goal.returns
returns c =
    let d = c.judge_blocks-d in
    let s = c.args.image.now in
    let f = figures_in c.args.scratch.now in
    let l = length-is c.args.scratch.now c.args.g.clusters c.requires.0.1 in
    let w = counting_last (short s f) (over s f) (length f) d.result (rw (← l) at (d.ensures.none (omega (arith, c.if-low-n.false, l)))) in
    let v = c.first_wrong-v in
    let e = rw (figures_are c.args.scratch.now c.args.g.clusters c.requires.0.1) at v.ensures in
    marks_wrong s f v.result _ e (sym c.is_sound.ensures ∙ c.if-is_sound.false)
    ∙ (rw (le-ltb _ _ c.if-low-n.false) at (last_unshared s f c.args.g.clusters d.result.low d.result.over l c.requires.0.0.0.is-clusters c.requires.1 w.0 w.1))
