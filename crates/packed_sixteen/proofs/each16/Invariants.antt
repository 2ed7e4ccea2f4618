use Prim.Native.Nat.{◌≤◌}
use mathlib.Core.Path.{◌≡◌}
use Rattle.choice.specs.Pick.{count}
use Rattle.packed.specs.Packed.{unlike_at, under_at}
use Rattle.packed_twos.specs.Twos.{twos}
use Rattle.packed_sixteen.proofs.each16.Given as goal

abbrev pub invariant-loop-j : goal.invariant-loop-j
invariant-loop-j l =
    ((l.unlike ≤ l.j) × (l.under ≤ l.j)) × (l.unlike ≡ count (unlike_at 4 l.block (twos l.figures l.m)) 0 l.j) × (l.under ≡ count (under_at 4 l.block (twos l.figures l.m)) 0 l.j)
