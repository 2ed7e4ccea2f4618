use Prim.Native.Nat.{◌+◌, ◌-◌, ◌*◌}
use mathlib.Core.Path.{◌≡◌}
use Rattle.choice.specs.Pick.{all}
use Rattle.tally.specs.Tally.{run}
use Rattle.qcow2_taken.specs.Taking.{new_at}
use Rattle.qcow2_taken.proofs.new_entries.all_new.Given as goal

abbrev pub invariant-loop-q : goal.invariant-loop-q
invariant-loop-q l = all (new_at l.table l.span) (run (l.from + 64 * l.q) (l.end - (l.from + 64 * l.q))) ≡ all (new_at l.table l.span) (run l.from (l.end - l.from))
