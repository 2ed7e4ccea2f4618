use Prim.Native.Nat.{◌-◌, ◌≤◌, ◌<◌}
use mathlib.Core.Path.{◌≡◌}
use Rattle.qcow2_spec.specs.Header.{roots}
use Rattle.qcow2_bad.specs.Known.{Spot}
use Rattle.qcow2_bad.proofs.Tables.{tables_from}
use Rattle.qcow2_bad.proofs.first_bad.Given as goal

abbrev pub invariant-loop-t : goal.invariant-loop-t
invariant-loop-t l = (tables_from l.image l.t ≡ tables_from l.image 0) × (l.t < roots l.image → Spot l.image l.t l.i l.j)
