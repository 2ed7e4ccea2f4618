use native.Mathlib.Omega.{arith}
use mathlib.Core.Path.{refl}
use Rattle.qcow2_trees.proofs.data_by.Goals as goal

pub returns-then-states : goal.returns-then-states
returns-then-states c = (rw c.if-states.true (omega arith), omega arith)

pub returns : goal.returns
returns c = (rw c.if-states.false refl, omega arith)
