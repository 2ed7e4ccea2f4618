use Prim.Native.Nat.{◌-◌, ◌≤◌}
use mathlib.Core.Path.{◌≡◌}
use lib.ListN.{length}
use Rattle.packed_twos.specs.Twos.{figures_in}
use Rattle.qcow2_repair.proofs.Midway.{State}
use Rattle.qcow2_repair.proofs.repair.Given as goal

abbrev pub invariant-loop-i : goal.invariant-loop-i
invariant-loop-i l = (l.i ≤ l.g.clusters) × ((length l.image ≡ length l.initial.image) × State l.g l.initial.image (figures_in l.refs) l.allowance l.i l.n l.image)

abbrev pub decreases-loop-i : goal.decreases-loop-i
decreases-loop-i l = l.g.clusters - l.i
