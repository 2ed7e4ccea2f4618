use mathlib.Core.Path.{◌∙◌}
use Rattle.qcow2_spec.proofs.Facts.{facts}
use Rattle.qcow2_forest.proofs.Scratches.{shared_states}
use Rattle.qcow2_forest.proofs.count_states.Goals as goal

pub walk_states-f-requires : goal.walk_states-f-requires
walk_states-f-requires c = c.requires

pub settle-requires : goal.settle-requires
settle-requires c =
    let w = c.walk_states-f in
    let s = c.args.image.now in
    ((c.requires.0, w.auto.scratch ∙ c.requires.1), (c.first_bad-shared.ensures ∙ shared_states s (facts s c.requires.0.0.accepted) _ w.ensures.1, w.ensures.1))

pub returns : goal.returns
returns c =
    let w = c.walk_states-f in
    let s = c.args.image.now in
    (w.ensures.0, (c.first_bad-shared.ensures ∙ shared_states s (facts s c.requires.0.0.accepted) _ w.ensures.1, c.settle.ensures))
