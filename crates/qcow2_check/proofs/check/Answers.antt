use native.Mathlib.Omega.{arith}
use Prim.Native.Nat.{◌*◌}
use mathlib.Core.Path.{◌≡◌, sym, ◌∙◌}
use lib.ListN.{length}
use lib.Seq.{length-take-le, take_at}
use Rattle.qcow2_spec.specs.References.{scratch_after}
use Rattle.qcow2_spec.proofs.Facts.{facts}
use Rattle.qcow2_fixed.proofs.Runs.{few-clusters}
use Rattle.qcow2_check.proofs.Figures.{counted-figures, front-before, front-marks}
use Rattle.qcow2_check.proofs.Verdicts.{verdict-bad, verdict-good, all-good}
use Rattle.qcow2_check.proofs.check.Goals as goal
use Rattle.qcow2_check.proofs.check.Goals.{After-count_all-w}

pub overflow_mul-m : goal.overflow_mul-m
overflow_mul-m c =
    let o = c.requires.0.0 in
    omega (arith, o.short, few-clusters (length c.args.image.now) c.args.g.clusters c.args.g.bits o.whole)

pub slice_bounds-count_all-end-2 : goal.slice_bounds-count_all-end-2
slice_bounds-count_all-end-2 c =
    sym (length-take-le (2 * c.args.g.clusters) c.args.scratch.now c.requires.1)

pub count_all-w-requires : goal.count_all-w-requires
count_all-w-requires c =
    (c.requires.0, length-take-le (2 * c.args.g.clusters) c.args.scratch.now c.requires.1)

-- the part that was lent comes back with its length, and is the part that is lent next
came-back : (c : After-count_all-w) → length c.count_all-w.new.scratch ≡ 2 * c.args.g.clusters
came-back c =
    c.count_all-w.auto.scratch ∙ length-take-le (2 * c.args.g.clusters) c.args.scratch.now c.requires.1

pub first_bad-v-requires : goal.first_bad-v-requires
first_bad-v-requires c = (c.requires.0, front-before c.count_all-w.ensures.0)

pub returns-then-not-is_sound : goal.returns-then-not-is_sound
unfolding scratch_after
returns-then-not-is_sound c =
    let v = c.first_bad-v in
    (verdict-bad c.args.image.now v.result v.ensures (sym c.is_sound.ensures ∙ c.if-not-is_sound.true), rw (c.count_all-w.ensures.1.1, c.requires.0.0.is-clusters))

pub slice_bounds-judge_counts-end-2 : goal.slice_bounds-judge_counts-end-2
slice_bounds-judge_counts-end-2 c = rw (take_at _ _ _ (came-back (goal.at.slice_bounds-judge_counts-end-2 c).After-count_all-w)) (sym (came-back (goal.at.slice_bounds-judge_counts-end-2 c).After-count_all-w))

pub judge_counts-requires : goal.judge_counts-requires
judge_counts-requires c =
    let s = c.args.image.now in
    let e = c.count_all-w.ensures in
    let v = c.first_bad-v in
    let o = c.requires.0.0 in
    let f = counted-figures s c.count_all-w.new.scratch e.1.1 in (
      ((c.requires.0, rw (take_at _ _ _ (came-back (goal.at.judge_counts-requires c).After-count_all-w)) (came-back (goal.at.judge_counts-requires c).After-count_all-w)), e.1.0),
      (
        all-good s v.result v.ensures (sym c.is_sound.ensures ∙ c.if-not-is_sound.false),
        λ own none. rw (take_at _ _ _ (came-back (goal.at.judge_counts-requires c).After-count_all-w), f) (front-marks (facts s o.accepted) o.is-snapshots c.all_own-own.ensures e.0 own none),
      ),
    )

pub returns : goal.returns
unfolding scratch_after
returns c =
    let s = c.args.image.now in
    let e = c.count_all-w.ensures in
    let v = c.first_bad-v in
    let f = counted-figures s c.count_all-w.new.scratch e.1.1 in (
      (rw (take_at _ _ _ (came-back (goal.at.returns c).After-count_all-w), f) at c.judge_counts.ensures) ∙ verdict-good s v.result v.ensures (sym c.is_sound.ensures ∙ c.if-not-is_sound.false),
      rw (e.1.1, c.requires.0.0.is-clusters),
    )
