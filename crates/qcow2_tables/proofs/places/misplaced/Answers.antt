use borrow.Author.Tests.{eq-eqb, ne_eqb}
use native.Mathlib.Omega.{arith}
use Prim.Native.Nat.{◌%◌, ◌^◌}
use Rattle.qcow2_tables.specs.Placing.{misplaced}
use Rattle.qcow2_tables.proofs.places.misplaced.Goals as goal

pub returns-then-rest-ne0 : goal.returns-then-rest-ne0
unfolding misplaced
returns-then-rest-ne0 c = let a = c.args in rw (ne_eqb (a.at % 2 ^ a.bits) 0 (λ e. omega arith))

pub returns : goal.returns
unfolding misplaced
returns c = let a = c.args in rw (eq-eqb (a.at % 2 ^ a.bits) 0 (omega arith)) c.past.ensures
