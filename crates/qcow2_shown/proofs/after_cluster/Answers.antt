-- `qcow2_shown::after_cluster` meets its contract. Assumes nothing.
use Rattle.qcow2_phases.specs.Ends.{in_rows}
use Rattle.qcow2_shown.proofs.Tests.{shown_hit, shown_miss}
use Rattle.qcow2_shown.proofs.after_cluster.Goals as goal

pub returns-then-touches : goal.returns-then-touches
returns-then-touches c = let a = c.args in shown_hit a.at _ _ (in_rows 1 a.held.now) c.touches.ensures c.if-touches.true

pub returns : goal.returns
returns c = let a = c.args in shown_miss a.at _ _ (in_rows 1 a.held.now) c.touches.ensures _ c.if-touches.false c.shown.ensures
