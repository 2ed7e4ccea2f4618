-- `qcow2_phases::clashing` meets its contract. Assumes nothing.
use native.Mathlib.Omega.{arith}
use mathlib.Core.Path.{sym, ap, ◌∙◌}
use Rattle.qcow2_batches.specs.Batch.{clash}
use Rattle.qcow2_phases.specs.Ends.{in_rows}
use Rattle.qcow2_phases.proofs.Turns.{from_none, from_all, clash_nil, clash_hit, clash_miss}
use Rattle.qcow2_phases.proofs.clashing.Goals as goal

pub loop-i-init : goal.loop-i-init
loop-i-init c = let a = c.args in ap (clash (in_rows a.p a.ys.now)) (sym (from_all a.q a.zs.now _))

pub returns-then-struck : goal.returns-then-struck
returns-then-struck c = let a = c.args in clash_hit a.q a.zs.now _ _ (omega arith) (omega arith) (in_rows a.p a.ys.now) _ _ c.loop-i.invariant c.struck.ensures c.if-struck.true

pub loop-i-preserved : goal.loop-i-preserved
loop-i-preserved c = let a = c.args in clash_miss a.q a.zs.now _ _ (omega arith) (omega arith) (in_rows a.p a.ys.now) _ _ c.loop-i.invariant c.struck.ensures c.if-struck.false

pub returns : goal.returns
returns c =
    let a = c.args in
    sym (c.loop-i.invariant ∙ ap (clash (in_rows a.p a.ys.now)) (from_none a.q a.zs.now _ _ (omega arith)) ∙ clash_nil (in_rows a.p a.ys.now))
