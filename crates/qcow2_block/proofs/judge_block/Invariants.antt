use Prim.Native.Nat.{◌+◌}
use Rattle.packed_twos.specs.Twos.{figures_in}
use Rattle.qcow2_figures.specs.Known.{Judging}
use Rattle.qcow2_block.specs.Steps.{Goes, ahead}
use Rattle.qcow2_block.proofs.judge_block.Given as goal

abbrev pub invariant-loop-w : goal.invariant-loop-w
invariant-loop-w l = Goes l.order l.image l.base l.m l.w × Judging l.image (figures_in l.scratch) (l.base + l.w.done) l.w.counted

abbrev pub decreases-loop-w : goal.decreases-loop-w
decreases-loop-w l = ahead l.m l.w
