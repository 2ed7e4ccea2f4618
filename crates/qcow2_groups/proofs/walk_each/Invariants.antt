use Rattle.qcow2_groups.specs.Walks.{AllGood}
use Rattle.qcow2_groups.proofs.walk_each.Given as goal

abbrev pub invariant-loop-j : goal.invariant-loop-j
invariant-loop-j l =
    AllGood l.kind l.version l.bits l.n l.table l.i l.initial.scratch l.j l.scratch
