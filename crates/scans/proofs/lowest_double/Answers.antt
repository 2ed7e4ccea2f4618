use Rattle.scans.proofs.lowest_double.Goals as goal

pub returns : goal.returns
returns c = c.some_double.ensures c.if-some_double.false
