use Rattle.qcow2_fixed.proofs.spans.visit_clusters.Goals as goal

pub returns : goal.returns
returns c = rw c.quotient-k.ensures.0 at c.visit_run.ensures
