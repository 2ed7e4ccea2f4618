use Rattle.std.specs.Prelude.{Ok}
use Prim.Native.Nat.{ℕ, ◌^◌}
use mathlib.Core.Path.{◌≡◌}
use Rattle.qcow2_spec.specs.declared.Found.TheVariants.{Absent}
use Rattle.qcow2_alike.specs.Alike.{entries_end}
use Rattle.qcow2_alike.proofs.table.empty_end.Given as goal

abbrev pub invariant-loop-k : goal.invariant-loop-k
invariant-loop-k l =
    (v : ℕ) → entries_end v (2 ^ l.bits) l.n l.table (Ok Absent) l.from l.from l.end ≡ entries_end v (2 ^ l.bits) l.n l.table (Ok Absent) l.from l.k l.end
