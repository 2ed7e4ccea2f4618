use mathlib.Core.Path.{◌≡◌}
use mathlib.Core.Bool.{true}
use Rattle.choice.specs.Pick.{count}
use Rattle.packed.specs.Packed.{unlike_at, under_at}
use Rattle.packed_twos.specs.Twos.{twos}
use Rattle.packed_sixteen.proofs.alike16.Given as goal

abbrev pub invariant-loop-j : goal.invariant-loop-j
invariant-loop-j l =
    l.same ≡ true → (count (unlike_at 4 l.block (twos l.figures l.m)) 0 l.j ≡ 0) × (count (under_at 4 l.block (twos l.figures l.m)) 0 l.j ≡ 0)
