-- `qcow2_phases::tears` meets its contract. Assumes nothing.
use mathlib.Core.Bool.{true}
use Rattle.qcow2_phases.proofs.Answers.{torn-first, torn-second, torn-third}
use Rattle.qcow2_phases.proofs.tears.Goals as goal

pub returns-then-clashing : goal.returns-then-clashing
returns-then-clashing c = let a = c.args in torn-first a.held.now a.own.now _ true true c.clashing.ensures c.if-clashing.true

pub returns-then-clashing-2 : goal.returns-then-clashing-2
returns-then-clashing-2 c = let a = c.args in torn-second a.held.now a.own.now _ _ true c.clashing.ensures c.clashing-2.ensures c.if-clashing.false c.if-clashing-2.true

pub returns : goal.returns
returns c = let a = c.args in torn-third a.held.now a.own.now _ _ _ c.clashing.ensures c.clashing-2.ensures c.if-clashing.false c.if-clashing-2.false c.clashing-3.ensures
