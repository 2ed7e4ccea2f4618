use Prim.Native.Nat.{◌-◌}
use mathlib.Core.Path.{◌≡◌}
use Rattle.tally.specs.Tally.{run, joined}
use Rattle.window.specs.Window.{board, visit_all_in}
use Rattle.qcow2_spec.specs.Header.{roots}
use Rattle.qcow2_spec.specs.References.{root_run}
use Rattle.qcow2_fixed.proofs.tables.visit_roots.Given as goal

abbrev pub invariant-loop-t : goal.invariant-loop-t
invariant-loop-t l =
    visit_all_in l.kind l.b (joined (root_run l.image) (run l.t (roots l.image - l.t))) (board l.target l.least)
    ≡ visit_all_in l.kind l.b (joined (root_run l.image) (run 0 (roots l.image))) (board l.initial.target l.low)
