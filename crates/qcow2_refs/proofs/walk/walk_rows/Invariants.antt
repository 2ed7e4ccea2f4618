use Prim.Native.Nat.{◌-◌, ◌*◌, ◌≤◌}
use mathlib.Core.Path.{◌≡◌}
use lib.ListN.{length, drop}
use Rattle.endian.specs.Big.{entries}
use Rattle.tally.specs.States.{tree_visited}
use Rattle.qcow2_spec.specs.Header.{root_at}
use Rattle.qcow2_spec.specs.References.{l1_refs}
use Rattle.qcow2_refs.specs.Walks.{Found}
use Rattle.qcow2_refs.proofs.walk.walk_rows.Given as goal

abbrev pub invariant-loop-w : goal.invariant-loop-w
invariant-loop-w l =
    (l.w.row ≤ l.g.l1size) × (length l.scratch ≡ length l.initial.scratch) × Found l.leaf l.image l.g.root l.w.row l.w.good l.w.below
    × (tree_visited (l1_refs l.image) l.table l.leaf (entries (l.g.l1size - l.w.row) (drop (8 * l.w.row) (drop (root_at l.image l.g.root) l.image))) l.scratch
    ≡ tree_visited (l1_refs l.image) l.table l.leaf (entries l.g.l1size (drop (root_at l.image l.g.root) l.image)) l.initial.scratch)

abbrev pub decreases-loop-w : goal.decreases-loop-w
decreases-loop-w l = l.g.l1size - l.w.row
