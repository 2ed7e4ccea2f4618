use Rattle.packed_search.proofs.Groups.{eighth_whole}
use Rattle.packed_search.proofs.lowest_any.Goals as goal

pub lowest_near-requires : goal.lowest_near-requires
lowest_near-requires c = (c.requires, eighth_whole c.args.order c.args.j c.if-j-eq0.true)
