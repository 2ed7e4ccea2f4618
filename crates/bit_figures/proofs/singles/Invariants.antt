use Rattle.bit_figures.specs.Alike.{Alike}
use Rattle.bit_figures.proofs.singles.Given as goal

abbrev pub invariant-loop-j : goal.invariant-loop-j
invariant-loop-j l = Alike l.scratch l.bits l.i l.j
