use mathlib.Core.Path.{◌≡◌}
use mathlib.Core.Bool.{◌&&◌}
use lib.ListN.{drop}
use Rattle.choice.specs.Pick.{all}
use Rattle.blank.proofs.Zeros.{is_zero}
use Rattle.blank.proofs.all_zeros.Given as goal

abbrev pub invariant-loop-b : goal.invariant-loop-b
invariant-loop-b l = (is_zero l.seen && all is_zero (drop l.b-index l.part)) ≡ all is_zero l.part
