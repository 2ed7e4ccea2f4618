use Prim.Native.Nat.{◌+◌}
use Rattle.packed_twos.specs.Twos.{figures_in}
use Rattle.qcow2_figures.specs.Known.{Judging}
use Rattle.qcow2_figures.proofs.judge_each.Given as goal

abbrev pub invariant-loop-j : goal.invariant-loop-j
invariant-loop-j l = Judging l.image (figures_in l.scratch) (l.base + l.j) l.d
