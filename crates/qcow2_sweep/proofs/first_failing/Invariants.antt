use Rattle.std.proofs.Common.{◌≡◌, ◌+◌, ◌-◌, ◌*◌, ◌^◌, drop}
use Rattle.endian.specs.Big.{entries}
use Rattle.qcow2_groups.specs.Walks.{fore}
use Rattle.qcow2_sweep.specs.Sweeps.{passes_by, group}
use Rattle.qcow2_sweep.proofs.first_failing.Given as goal

abbrev pub invariant-loop-j : goal.invariant-loop-j
invariant-loop-j l =
    l.j + fore (passes_by l.kind l.version (2 ^ l.bits) l.n) (entries (l.end - l.j) (drop (8 * l.j) l.table)) ≡ l.i + fore (passes_by l.kind l.version (2 ^ l.bits) l.n) (group l.table l.i)
