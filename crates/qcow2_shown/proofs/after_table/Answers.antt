-- `qcow2_shown::after_table` meets its contract. Assumes nothing.
use mathlib.Core.List.{◌∷◌}
use Prim.Native.Nat.{◌/◌, ◌^◌}
use Rattle.widths.specs.Width.{span}
use Rattle.qcow2_spec.specs.Steps.{whole}
use Rattle.qcow2_phases.specs.Ends.{in_rows}
use Rattle.qcow2_shown.specs.Shown.{with_new}
use Rattle.qcow2_shown.proofs.Tests.{shown_hit, shown_miss}
use Rattle.qcow2_shown.proofs.after_table.Goals as goal

pub returns-then-touches : goal.returns-then-touches
returns-then-touches c =
    let a = c.args in
    let p = a.p in
    shown_hit p.link _ _ (whole (p.tablecount / 8) (span (2 ^ p.order)) ∷ with_new p.order p.datacount p.place a.c (in_rows 1 a.held.now)) c.touches.ensures c.if-touches.true

pub returns-then-touches-2 : goal.returns-then-touches-2
returns-then-touches-2 c =
    let a = c.args in
    let p = a.p in
    let ys = with_new p.order p.datacount p.place a.c (in_rows 1 a.held.now) in
    shown_miss p.link _ _ (whole (p.tablecount / 8) (span (2 ^ p.order)) ∷ ys) c.touches.ensures _ c.if-touches.false
    (shown_hit p.link _ _ ys (rw c.span_of-w.ensures at c.touches-2.ensures) c.if-touches-2.true)

pub returns : goal.returns
returns c =
    let a = c.args in
    let p = a.p in
    let ys = with_new p.order p.datacount p.place a.c (in_rows 1 a.held.now) in
    shown_miss p.link _ _ (whole (p.tablecount / 8) (span (2 ^ p.order)) ∷ ys) c.touches.ensures _ c.if-touches.false
    (shown_miss p.link _ _ ys (rw c.span_of-w.ensures at c.touches-2.ensures) _ c.if-touches-2.false c.after_new.ensures)
