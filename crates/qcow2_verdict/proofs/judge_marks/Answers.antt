use mathlib.Core.Path.{◌≡◌, refl, sym, ap, ◌∙◌}
use Rattle.packed_twos.specs.Twos.{figures_in}
use Rattle.qcow2_spec.specs.Header.{root_size}
use Rattle.qcow2_spec.specs.References.{l1_entries}
use Rattle.qcow2_spec.specs.Check.{l1_verdict, wrong_marks}
use Rattle.qcow2_spec.specs.declared.Verdict.TheVariants.{Sound}
use Rattle.qcow2_verdict.proofs.Figures.{figures_are}
use Rattle.qcow2_verdict.proofs.Counts.{marks_wrong, marks-right}
use Rattle.qcow2_verdict.proofs.judge_marks.Goals as goal
use Rattle.qcow2_verdict.proofs.judge_marks.Goals.{After-first_mark-v}

pub returns-then-own : goal.returns-then-own
returns-then-own c =
    c.leaking.ensures ∙ marks-right c.args.image.now (figures_in c.args.scratch.now) Sound _ (sym (c.requires.1.1 c.if-own.true)) refl

pub first_mark-v-requires : goal.first_mark-v-requires
first_mark-v-requires c =
    let o = c.requires.0.0 in
    let s = c.args.image.now in
    let e : c.args.g.l1size ≡ root_size s 0 = o.0.is_l1size ∙ ap (root_size s) o.1 in
    (c.requires.0, λ i l. c.requires.1.0 i (rw e at l))

-- what the search has found, by the scratch's figures
found : (c : After-first_mark-v) →
    c.first_mark-v.result
    ≡ l1_verdict c.args.image.now (wrong_marks c.args.image.now (figures_in c.args.scratch.now)) 0 (l1_entries c.args.image.now 0) Sound
found c =
    rw (figures_are c.args.scratch.now c.args.g.clusters c.requires.0.1) at c.first_mark-v.ensures

pub returns-then-is_sound : goal.returns-then-is_sound
returns-then-is_sound c =
    c.leaking-then-is_sound.ensures ∙ marks-right c.args.image.now (figures_in c.args.scratch.now) c.first_mark-v.result _ (found (goal.at.returns-then-is_sound c).After-first_mark-v) (sym c.is_sound.ensures ∙ c.if-is_sound.true)

pub returns : goal.returns
returns c =
    marks_wrong c.args.image.now (figures_in c.args.scratch.now) c.first_mark-v.result _ (found (goal.at.returns c).After-first_mark-v) (sym c.is_sound.ensures ∙ c.if-is_sound.false)
