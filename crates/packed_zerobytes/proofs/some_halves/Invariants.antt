use Prim.Native.Nat.{◌*◌}
use mathlib.Core.Path.{◌≡◌}
use mathlib.Core.Bool.{◌||◌}
use lib.Dec.{eqb, ltb}
use Rattle.packed_zerowords.specs.Found.{some}
use Rattle.packed_zerobytes.specs.Holds.{per}
use Rattle.packed.specs.Packed.{zero_at}
use Rattle.packed_zerobytes.proofs.some_halves.Given as goal

abbrev pub invariant-loop-x : goal.invariant-loop-x
invariant-loop-x l = (eqb l.low 0 || ltb l.least 16) ≡ some (zero_at 2 l.part) (per 2 * l.x-index)
