use borrow.Author.Tests.{lt-ltb}
use native.Mathlib.Omega.{arith}
use mathlib.Core.Path.{◌≡◌, refl, sym, ◌∙◌}
use lib.ListN.{length}
use Rattle.choice.specs.Pick.{first, count}
use Rattle.choice.proofs.Runs.{first-high}
use Rattle.packed_twos.specs.Twos.{figures_in}
use Rattle.qcow2_spec.specs.Header.{clusters}
use Rattle.qcow2_spec.specs.Check.{shared_at, short, over}
use Rattle.qcow2_verdict.proofs.Figures.{length-is}
use Rattle.qcow2_portions.proofs.Last.{last-good}
use Rattle.qcow2_last.proofs.Last.{last_tell, good-rows}
use Rattle.qcow2_last.proofs.judge_last.Goals as goal
use Rattle.qcow2_last.proofs.judge_last.Goals.{Else-shared-g}

pub look-w-requires : goal.look-w-requires
look-w-requires c = c.requires

pub returns-then-shared-g : goal.returns-then-shared-g
returns-then-shared-g c =
    let s = c.args.image.now in
    let f = figures_in c.args.scratch.now in
    let l = length-is c.args.scratch.now c.args.g.clusters c.requires.1 in
    rw (lt-ltb _ _ c.if-shared-g.true) at
    (last_tell s f c.args.g.clusters _ (first (short s f) 0 (length f)) (count (over s f) 0 (length f)) l c.requires.0.0.is-clusters c.look-w.ensures.shared refl refl)

-- nothing is shared
all_apart : (c : Else-shared-g) → c.look-w.result.shared ≡ clusters c.args.image.now
all_apart c =
    let s = c.args.image.now in
    omega (arith, c.if-shared-g.false, c.look-w.ensures.shared, first-high (shared_at s) 0 (clusters s), c.requires.0.0.is-clusters)

pub judge_counts-requires : goal.judge_counts-requires
judge_counts-requires c =
    let k = c.look-w.ensures in
    let e = all_apart (goal.at.judge_counts-requires c).Else-shared-g in
    (((c.requires.0, c.requires.1), k.shared), (good-rows c.args.image.now (k.good e c.if-w.true), λ o n. k.right e o))

pub returns-then-w : goal.returns-then-w
returns-then-w c =
    let a = c.args in
    c.judge_counts.ensures ∙ sym (last-good a.image.now (figures_in a.scratch.now) (c.look-w.ensures.good (all_apart (goal.at.returns-then-w c).Else-shared-g) c.if-w.true))

pub judge_changed-requires : goal.judge_changed-requires
judge_changed-requires c =
    ((c.requires.0, c.requires.1), omega (arith, all_apart (goal.at.judge_changed-requires c).Else-shared-g, c.look-w.ensures.shared))

pub returns : goal.returns
returns c = c.judge_changed.ensures
