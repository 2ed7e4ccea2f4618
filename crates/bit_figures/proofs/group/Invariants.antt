use Prim.Native.Nat.{◌+◌, ◌*◌}
use mathlib.Core.Path.{◌≡◌}
use Rattle.bit_figures.specs.Alike.{Alike}
use Rattle.bit_figures.proofs.group.Given as goal

abbrev pub invariant-loop-j : goal.invariant-loop-j
invariant-loop-j l = l.found ≡ 0 → Alike l.scratch l.bits (8 * l.i) (8 * (l.i + l.j))
