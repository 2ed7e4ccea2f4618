use Rattle.std.proofs.Common.{◌*◌}
use Rattle.qcow2_groups.specs.Walks.{AllGood}
use Rattle.qcow2_groups.proofs.walk_good.Given as goal

abbrev pub invariant-loop-d : goal.invariant-loop-d
invariant-loop-d l =
    AllGood l.kind l.version l.bits l.n l.table 0 l.initial.scratch (64 * l.d) l.scratch
