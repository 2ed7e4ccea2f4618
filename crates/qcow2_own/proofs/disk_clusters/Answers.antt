use Rattle.qcow2_own.proofs.disk_clusters.Goals as goal

pub returns : goal.returns
returns c = rw (← c.power.ensures.0) (rw c.power.ensures.0 (rw c.power.ensures.0 at c.quotient.ensures.0))
