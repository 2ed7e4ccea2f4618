use Prim.Native.Nat.{◌-◌, ◌*◌, ◌≤◌}
use mathlib.Core.Path.{◌≡◌}
use lib.ListN.{length, drop}
use Rattle.endian.specs.Big.{entries}
use Rattle.window.specs.Window.{board, tree_visited_in}
use Rattle.qcow2_spec.specs.Header.{root_at}
use Rattle.qcow2_spec.specs.References.{l1_refs}
use Rattle.qcow2_spec.specs.Check.{or_else, l1_verdict}
use Rattle.qcow2_spec.specs.declared.Verdict.TheVariants.{Sound}
use Rattle.qcow2_swept.specs.Rows.{seek_by}
use Rattle.qcow2_swept.proofs.sweep_rows.Given as goal

abbrev pub invariant-loop-i : goal.invariant-loop-i
invariant-loop-i l =
    ((l.from ≤ l.i) × (l.i ≤ l.to)) × (length l.target ≡ length l.initial.target)
    × (or_else l.s.found (l1_verdict l.image (seek_by l.leaf l.image l.g.root) l.i (entries (l.to - l.i) (drop (8 * l.i) (drop (root_at l.image l.g.root) l.image))) Sound)
    ≡ or_else l.initial.s.found (l1_verdict l.image (seek_by l.leaf l.image l.g.root) l.from (entries (l.to - l.from) (drop (8 * l.from) (drop (root_at l.image l.g.root) l.image))) Sound))
    × (tree_visited_in (l1_refs l.image) l.table l.leaf l.b (entries (l.to - l.i) (drop (8 * l.i) (drop (root_at l.image l.g.root) l.image))) (board l.target l.s.low)
    ≡ tree_visited_in (l1_refs l.image) l.table l.leaf l.b (entries (l.to - l.from) (drop (8 * l.from) (drop (root_at l.image l.g.root) l.image))) (board l.initial.target l.initial.s.low))

abbrev pub decreases-loop-i : goal.decreases-loop-i
decreases-loop-i l = l.to - l.i
