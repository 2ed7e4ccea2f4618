use Prim.Native.Nat.{◌*◌}
use Rattle.bit_figures.specs.Alike.{Alike}
use Rattle.bit_figures.proofs.bytes.Given as goal

abbrev pub invariant-loop-j : goal.invariant-loop-j
invariant-loop-j l = Alike l.scratch l.bits (8 * l.i) (8 * l.j)
