use Rattle.qcow2_fixed.proofs.spans.clusters_of.Goals as goal

pub returns : goal.returns
returns c = rw c.power-c.ensures.0 at c.quotient.ensures.0
