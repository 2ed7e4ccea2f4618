use Prim.Native.Nat.{◌*◌}
use mathlib.Core.Path.{◌≡◌}
use Rattle.packed_zerowords.specs.Found.{some}
use Rattle.packed_zerobytes.specs.Holds.{per}
use Rattle.packed.specs.Packed.{zero_at}
use Rattle.packed_zerobytes.proofs.some_in_bytes.Given as goal

abbrev pub invariant-loop-x : goal.invariant-loop-x
invariant-loop-x l = l.found ≡ some (zero_at l.order l.part) (per l.order * l.x-index)
