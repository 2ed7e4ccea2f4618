use mathlib.Core.Path.{◌≡◌}
use Rattle.packed_zerowords.specs.Found.{some}
use Rattle.packed.specs.Packed.{zero_at}
use Rattle.packed_zerowords.proofs.some_in_words.Given as goal

abbrev pub invariant-loop-i : goal.invariant-loop-i
invariant-loop-i g l = l.found ≡ some (zero_at g.row.ORDER l.part) l.i
