use Prim.Native.Nat.{◌-◌}
use mathlib.Core.Path.{◌≡◌}
use Rattle.choice.specs.Pick.{first}
use Rattle.tally.specs.States.{flag_at}
use Rattle.scans.proofs.lowest.Given as goal

abbrev pub invariant-loop-k : goal.invariant-loop-k
invariant-loop-k l = first (flag_at l.alone l.scratch) l.k (l.n - l.k) ≡ first (flag_at l.alone l.scratch) 0 l.n
