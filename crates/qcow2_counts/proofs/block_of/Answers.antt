use Rattle.qcow2_counts.proofs.block_of.Goals as goal

pub returns : goal.returns
returns c = rw c.log_of.ensures.0 at c.quotient.ensures.0
