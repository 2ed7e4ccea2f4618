use mathlib.Core.Path.{sym, ◌∙◌}
use Rattle.packed_search.proofs.lowest_near.Goals as goal

pub returns : goal.returns
returns c = c.lowest_each.ensures ∙ sym c.pass-k.ensures.1
