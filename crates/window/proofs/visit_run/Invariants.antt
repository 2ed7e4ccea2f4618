use Prim.Native.Nat.{◌+◌, ◌-◌}
use mathlib.Core.Path.{◌≡◌}
use Rattle.tally.specs.Tally.{run}
use Rattle.window.specs.Window.{board, visit_all_in}
use Rattle.window.proofs.visit_run.Given as goal

abbrev pub invariant-loop-j : goal.invariant-loop-j
invariant-loop-j l =
    visit_all_in l.kind l.b (run (l.i + l.j) (l.k - l.j)) (board l.target l.least) ≡ visit_all_in l.kind l.b (run l.i l.k) (board l.initial.target l.low)
