use Prim.Native.Nat.{ℕ, ◌≤◌}
use mathlib.Core.Path.{◌≡◌}
use mathlib.Core.Bool.{Bool, not, ◌&&◌}
use mathlib.Core.List.{List}
use lib.Dec.{eqb}
use Rattle.choice.specs.Pick.{count}
use Rattle.packed.specs.Packed.{unlike_at}
use Rattle.packed_twos.specs.Twos.{twos}
use Rattle.packed_twos.proofs.Seen.{loaded}
use Rattle.packed_twos.proofs.Seen.{Among}
use Rattle.packed_sixteen.proofs.pass16.Given as goal

abbrev pub zero_at : (B F : List ℕ) → ℕ → Bool
zero_at B F j = eqb (loaded B j) 0 && not (eqb (loaded F j) 0)

abbrev pub invariant-loop-j : goal.invariant-loop-j
invariant-loop-j l =
    ((l.unlike ≤ l.j) × (l.zeros ≤ l.j)) × (l.unlike ≡ count (unlike_at 4 l.block (twos l.figures l.m)) 0 l.j) × (l.zeros ≡ count (zero_at l.block l.figures) 0 l.j) × Among l.figures l.seen l.j
