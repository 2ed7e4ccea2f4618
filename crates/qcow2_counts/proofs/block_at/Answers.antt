use mathlib.Core.Path.{◌∙◌}
use Rattle.qcow2_counts.proofs.Sizes.{named, block_is}
use Rattle.qcow2_counts.proofs.block_at.Goals as goal

pub block_place-requires : goal.block_place-requires
block_place-requires c = named c.args.g c.args.image.now c.requires.0 c.args.b c.requires.1

pub returns : goal.returns
returns c =
    let e = c.block_place.ensures in
    (e.0 ∙ block_is c.args.g c.args.image.now c.requires.0 c.args.b, e.1)
