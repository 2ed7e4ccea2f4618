use Prim.Native.Nat.{◌-◌, ◌*◌, ◌≤◌, min}
use mathlib.Core.Path.{◌≡◌}
use Rattle.packed_twos.specs.Twos.{figures_in}
use Rattle.qcow2_figures.specs.Known.{Judging}
use Rattle.qcow2_verdict.proofs.judge_blocks.Given as goal

abbrev pub invariant-loop-k : goal.invariant-loop-k
invariant-loop-k l =
    (l.k ≤ l.n) × (l.k ≡ min (l.b * l.per) l.n) × Judging l.image (figures_in l.scratch) l.k l.d

abbrev pub decreases-loop-k : goal.decreases-loop-k
decreases-loop-k l = l.n - l.k
