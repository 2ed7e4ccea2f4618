use Rattle.std.specs.Prelude.{Ok}
use Prim.Native.Nat.{ℕ, ◌+◌, ◌-◌, ◌*◌, ◌^◌}
use mathlib.Core.Path.{◌≡◌}
use Rattle.qcow2_spec.specs.declared.Found.TheVariants.{Host}
use Rattle.qcow2_alike.specs.Alike.{entries_end}
use Rattle.qcow2_alike.proofs.table.host_end.Given as goal

abbrev pub invariant-loop-k : goal.invariant-loop-k
invariant-loop-k l =
    (l.want ≡ 2 * (l.h + (l.k - l.from) * 2 ^ l.bits))
    × ((v : ℕ) → entries_end v (2 ^ l.bits) l.n l.table (Ok (Host l.h)) l.from l.from l.end ≡ entries_end v (2 ^ l.bits) l.n l.table (Ok (Host l.h)) l.from l.k l.end)
