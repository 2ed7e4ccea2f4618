use Prim.Native.Nat.{◌^◌}
use mathlib.Core.Path.{◌≡◌}
use Rattle.qcow2_alike.specs.Alike.{entries_end}
use Rattle.qcow2_alike.proofs.table.same_end.Given as goal

abbrev pub invariant-loop-k : goal.invariant-loop-k
invariant-loop-k l =
    entries_end l.version (2 ^ l.bits) l.n l.table l.f l.from l.from l.end ≡ entries_end l.version (2 ^ l.bits) l.n l.table l.f l.from l.k l.end
