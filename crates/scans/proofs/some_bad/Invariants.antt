use Prim.Native.Nat.{◌-◌}
use mathlib.Core.Path.{◌≡◌}
use mathlib.Core.Bool.{false, ◌||◌}
use lib.Dec.{ltb}
use Rattle.choice.specs.Pick.{first}
use Rattle.tally.specs.States.{flag_at}
use Rattle.scans.proofs.some_bad.Given as goal

abbrev pub invariant-loop-k : goal.invariant-loop-k
invariant-loop-k l =
    (l.found || ltb (first (flag_at false l.scratch) l.k (l.n - l.k)) l.n) ≡ ltb (first (flag_at false l.scratch) 0 l.n) l.n
