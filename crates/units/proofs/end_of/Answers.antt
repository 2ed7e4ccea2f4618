use native.Mathlib.Omega.{arith}
use borrow.Author.Tests.{le-leb, lt-leb}
use Rattle.units.specs.Plan.{ended}
use Rattle.units.proofs.end_of.Goals as goal

pub returns-then-n-allowance : goal.returns-then-n-allowance
unfolding ended
returns-then-n-allowance c =
    let a = c.args in
    rw (le-leb a.n a.allowance (omega arith))

pub returns : goal.returns
unfolding ended
returns c =
    let a = c.args in
    rw (lt-leb a.n a.allowance (omega arith))
