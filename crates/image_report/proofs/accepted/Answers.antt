use Prim.Native.Nat.{◌≤◌}
use native.Mathlib.Omega.{arith}
use Rattle.choice.proofs.Searches.{count_most}
use Rattle.qcow2_spec.specs.Header.{clusters}
use Rattle.qcow2_spec.specs.Counts.{free_at, free}
use Rattle.image_report.proofs.accepted.Goals as goal

pub free_clusters-free-requires : goal.free_clusters-free-requires
free_clusters-free-requires g c = c.requires

-- no more clusters are free than there are
pub overflow_sub-g : goal.overflow_sub-g
unfolding free
overflow_sub-g g c =
    let s = c.args.image.now in
    let m : free s ≤ clusters s = count_most (free_at s) 0 (clusters s) in
    omega (arith, m, c.free_clusters-free.ensures, c.requires.is-clusters)
