use native.Mathlib.Omega.{arith}
use Prim.Native.Nat.{◌+◌, ◌-◌}
use mathlib.Core.Path.{sym}
use borrow.Author.Tests.{lt-ltb}
use Rattle.power.proofs.Laws.{same_test}
use Rattle.power.proofs.past.Goals as goal

pub returns-then-n-at : goal.returns-then-n-at
returns-then-n-at c =
    let a = c.args in
    sym (lt-ltb a.n (a.at + a.len) (omega arith))

pub returns : goal.returns
returns c =
    let a = c.args in
    same_test (a.n - a.at) a.len a.n (a.at + a.len) (λ h. omega arith) (λ h. omega arith)
