use Prim.Native.Nat.{◌+◌, ◌^◌}
use mathlib.Core.Path.{◌≡◌}
use Rattle.qcow2_groups.specs.Walks.{fore, whole, on_from}
use Rattle.qcow2_remark.specs.Fores.{right_l2}
use Rattle.qcow2_remark.proofs.table_fore.Given as goal

abbrev pub invariant-loop-j : goal.invariant-loop-j
invariant-loop-j l =
    let p = right_l2 l.version (2 ^ l.bits) l.n l.scratch in
    l.j + fore p (on_from l.j l.table) ≡ fore p (whole l.table)
