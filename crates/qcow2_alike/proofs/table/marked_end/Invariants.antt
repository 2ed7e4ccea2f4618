use Rattle.std.specs.Prelude.{Ok}
use Prim.Native.Nat.{◌^◌}
use mathlib.Core.Path.{◌≡◌}
use Rattle.qcow2_spec.specs.declared.Found.TheVariants.{Zeros}
use Rattle.qcow2_alike.specs.Alike.{entries_end}
use Rattle.qcow2_alike.proofs.table.marked_end.Given as goal

abbrev pub invariant-loop-k : goal.invariant-loop-k
invariant-loop-k l =
    entries_end l.version (2 ^ l.bits) l.n l.table (Ok Zeros) l.from l.from l.end ≡ entries_end l.version (2 ^ l.bits) l.n l.table (Ok Zeros) l.from l.k l.end
