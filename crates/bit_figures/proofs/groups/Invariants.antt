use Prim.Native.Nat.{◌*◌}
use Rattle.bit_figures.specs.Alike.{Alike}
use Rattle.bit_figures.proofs.groups.Given as goal

abbrev pub invariant-loop-g : goal.invariant-loop-g
invariant-loop-g l = Alike l.scratch l.bits 0 (256 * l.g)
