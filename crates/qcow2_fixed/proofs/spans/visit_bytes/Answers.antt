use native.Mathlib.Omega.{arith}
use Rattle.qcow2_fixed.proofs.Runs.{few_needed}
use Rattle.qcow2_fixed.proofs.spans.visit_bytes.Goals as goal

pub visit_clusters-requires : goal.visit_clusters-requires
visit_clusters-requires c =
    (c.requires.0, (c.requires.1.0, omega (arith, c.clusters_of.ensures, few_needed c.args.bytes c.args.bits, c.requires.1.1)))

pub returns : goal.returns
returns c = rw c.clusters_of.ensures at c.visit_clusters.ensures
