-- `qcow2_phases::scan` meets its contract. Assumes nothing.
use native.Mathlib.Omega.{arith}
use mathlib.Core.Path.{sym, ap, ◌∙◌}
use Rattle.qcow2_batches.specs.Batch.{meets}
use Rattle.qcow2_phases.proofs.Meets.{meets_nil}
use Rattle.qcow2_phases.proofs.Turns.{from_none, from_all, scan_hit, scan_miss}
use Rattle.qcow2_phases.proofs.scan.Goals as goal

pub loop-i-init : goal.loop-i-init
loop-i-init c = let a = c.args in ap (λ ys. meets ys a.at a.len) (sym (from_all a.p a.rows.now _))

pub returns-then-hit : goal.returns-then-hit
returns-then-hit c = let a = c.args in scan_hit a.p a.rows.now _ _ (omega arith) (omega arith) a.at a.len _ _ c.loop-i.invariant c.hit.ensures c.if-hit.true

pub loop-i-preserved : goal.loop-i-preserved
loop-i-preserved c = let a = c.args in scan_miss a.p a.rows.now _ _ (omega arith) (omega arith) a.at a.len _ _ c.loop-i.invariant c.hit.ensures c.if-hit.false

pub returns : goal.returns
returns c =
    let a = c.args in
    sym (c.loop-i.invariant ∙ ap (λ ys. meets ys a.at a.len) (from_none a.p a.rows.now _ _ (omega arith)) ∙ meets_nil a.at a.len)
