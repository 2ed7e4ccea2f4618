use Rattle.qcow2_counts.proofs.index_of.Goals as goal

pub returns : goal.returns
returns c = let e = rw c.log_of.ensures.0 at c.rest.ensures in (e.0, e.1.0)
