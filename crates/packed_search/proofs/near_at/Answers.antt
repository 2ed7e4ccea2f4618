use mathlib.Core.Path.{refl}
use Rattle.packed.proofs.Parts.{part_of}
use Rattle.packed_search.proofs.near_at.Goals as goal

pub returns : goal.returns
returns c = let a = c.args in rw (part_of a.image.now a.at a.c a.c refl) at c.lowest_any.ensures
