-- `qcow2_shown::after_new` meets its contract. Assumes nothing.
use mathlib.Core.List.{◌∷◌}
use Rattle.qcow2_spec.specs.Steps.{whole}
use Rattle.qcow2_phases.specs.Ends.{in_rows}
use Rattle.qcow2_shown.proofs.Tests.{shown_hit, shown_miss}
use Rattle.qcow2_shown.proofs.after_new.Goals as goal

pub returns-then-touches : goal.returns-then-touches
returns-then-touches c =
    let a = c.args in
    shown_hit a.at _ _ (whole a.p a.c ∷ in_rows 1 a.held.now) (rw c.span_of-w.ensures at c.touches.ensures) c.if-touches.true

pub returns : goal.returns
returns c =
    let a = c.args in
    shown_miss a.at _ _ (whole a.p a.c ∷ in_rows 1 a.held.now) (rw c.span_of-w.ensures at c.touches.ensures) _ c.if-touches.false c.after_cluster.ensures
