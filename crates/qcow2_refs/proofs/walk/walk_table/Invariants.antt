use Prim.Native.Nat.{◌^◌, ◌≤◌}
use Rattle.qcow2_spec.specs.References.{l2_refs}
use Rattle.qcow2_groups.specs.Walks.{passes, Walking, on_from}
use Rattle.qcow2_refs.proofs.walk.walk_table.Given as goal

abbrev pub invariant-loop-j : goal.invariant-loop-j
invariant-loop-j l =
    (l.r ≤ l.j) × Walking l.leaf (l2_refs l.version (2 ^ l.bits) l.n) (passes l.leaf l.version (2 ^ l.bits) l.n) (on_from l.good l.table) l.initial.scratch l.good l.good (on_from l.j l.table) l.scratch l.r l.j
