use Prim.Native.Nat.{◌-◌}
use mathlib.Core.Path.{◌≡◌}
use Rattle.choice.specs.Pick.{all}
use Rattle.tally.specs.Tally.{run}
use Rattle.qcow2_taken.specs.Taking.{new_at}
use Rattle.qcow2_taken.proofs.new_entries.few_new.Given as goal

abbrev pub invariant-loop-i : goal.invariant-loop-i
invariant-loop-i l = all (new_at l.table l.span) (run l.i (l.end - l.i)) ≡ all (new_at l.table l.span) (run l.from (l.end - l.from))
