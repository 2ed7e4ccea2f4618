use Rattle.bit_figures.proofs.Laws.{spread_is}
use Rattle.bit_figures.proofs.spread.Goals as goal

pub returns : goal.returns
returns c = spread_is c.args.x c.requires
