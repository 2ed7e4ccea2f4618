use mathlib.Core.Path.{◌∙◌}
use Rattle.qcow2_counts.proofs.Sizes.{reach, count-is, count-inside}
use Rattle.qcow2_counts.proofs.count_at.Goals as goal

pub count_place-requires : goal.count_place-requires
count_place-requires c = reach c.args.g c.args.image.now c.requires.0 c.args.k c.requires.1

pub returns : goal.returns
returns c =
    let a = c.args in
    let l = a.image.now in
    let p = c.count_place.ensures.0 in
    (p ∙ count-is a.g l c.requires.0 a.k, rw p (count-inside a.g l a.k (reach a.g l c.requires.0 a.k c.requires.1)))
