-- `qcow2_phases::planned` meets its contract. Assumes nothing.
use native.Mathlib.Omega.{arith}
use mathlib.Core.Path.{sym}
use lib.Seq.{length-take-le}
use Rattle.qcow2_phases.proofs.Answers.{plan_full, plan_torn, plan_rows}
use Rattle.qcow2_phases.proofs.planned.Goals as goal

pub returns-then-room-k : goal.returns-then-room-k
returns-then-room-k c = let a = c.args in plan_full a.rows.now a.k a.n (omega (arith, c.if-room-k.true))

pub returns-then-room-k-2 : goal.returns-then-room-k-2
returns-then-room-k-2 c = let a = c.args in plan_full a.rows.now a.k a.n (omega (arith, c.if-room-k-2.true, c.if-room-k.false))

pub slice_bounds-tears-end : goal.slice_bounds-tears-end
slice_bounds-tears-end c = let a = c.args in sym (length-take-le _ a.rows.now (omega (arith, c.if-room-k.false)))

pub returns-then-tears : goal.returns-then-tears
returns-then-tears c = let a = c.args in plan_torn a.rows.now a.k a.n (omega (arith, c.if-room-k-2.false, c.if-room-k.false)) _ c.tears.ensures c.if-tears.true

pub returns : goal.returns
returns c = let a = c.args in plan_rows a.rows.now a.k a.n (omega (arith, c.if-room-k-2.false, c.if-room-k.false)) _ c.tears.ensures c.if-tears.false
