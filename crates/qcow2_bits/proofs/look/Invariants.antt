use Prim.Native.Nat.{◌-◌, ◌≤◌}
use mathlib.Core.Path.{◌≡◌}
use mathlib.Core.Bool.{true}
use lib.ListN.{length}
use Rattle.qcow2_lowest.specs.Lowest.{Clear}
use Rattle.qcow2_bits.specs.Found.{AllOwn, SameFrom}
use Rattle.qcow2_bits.proofs.look.Given as goal

abbrev pub invariant-loop-b : goal.invariant-loop-b
invariant-loop-b l =
    ((l.b ≤ l.n) × (length l.window ≡ length l.initial.window)) × Clear l.image l.b × (l.own ≡ true → AllOwn l.image) × (l.same ≡ true → SameFrom l.image l.scratch 0 l.b)

abbrev pub decreases-loop-b : goal.decreases-loop-b
decreases-loop-b l = l.n - l.b
