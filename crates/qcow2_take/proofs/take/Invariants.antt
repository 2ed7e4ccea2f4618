use Prim.Native.Nat.{◌≤◌}
use mathlib.Core.Path.{◌≡◌}
use lib.ListN.{length}
use Rattle.qcow2_portions.specs.Rows.{ahead, added, met, root_after, row_after}
use Rattle.qcow2_take.specs.Taking.{to_take, tables_left}
use Rattle.qcow2_take.proofs.take.Given as goal

abbrev pub invariant-loop-w : goal.invariant-loop-w
invariant-loop-w l =
    (length l.scratch ≡ length l.initial.scratch)
    × (l.w.left ≤ length (ahead l.image l.w.root l.w.row))
    × ((root_after l.w.root (to_take l.image l.w) ≡ root_after l.initial.w.root (to_take l.image l.initial.w)) × (row_after l.w.row (to_take l.image l.w) ≡ row_after l.initial.w.row (to_take l.image l.initial.w)))
    × ((met l.image (to_take l.image l.w) l.w.found ≡ met l.image (to_take l.image l.initial.w) l.initial.w.found) × (added l.image (to_take l.image l.w) l.scratch ≡ added l.image (to_take l.image l.initial.w) l.initial.scratch))

abbrev pub decreases-loop-w : goal.decreases-loop-w
decreases-loop-w l = tables_left l.image l.w
