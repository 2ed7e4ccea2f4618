use mathlib.Core.Path.{◌∙◌}
use Rattle.qcow2_forest.proofs.Scratches.{shared-counts}
use Rattle.qcow2_forest.proofs.count_single.Goals as goal

pub count_alone-f-requires : goal.count_alone-f-requires
count_alone-f-requires c = c.requires.0

pub returns : goal.returns
returns c =
    let a = c.count_alone-f in
    let p = c.requires.0 in
    let e = shared-counts c.args.image.now c.requires.1 _ c.args.g.clusters p.0.0.is-clusters (a.auto.scratch ∙ p.1) a.ensures.1 in
    (a.ensures.0, (c.lowest_double.ensures ∙ e, a.ensures.1))
