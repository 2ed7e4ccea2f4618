use borrow.Author.Tests.{lt-ltb, le-ltb}
use mathlib.Core.Path.{ap}
use Prim.Native.Nat.{ℕ}
use mathlib.Core.Bool.{not}
use lib.Dec.{eqb}
use Rattle.qcow2_taken.specs.Taking.{bad_length}
use Rattle.qcow2_taken.proofs.bad_old.Goals as goal

pub returns-then-old-lt512 : goal.returns-then-old-lt512
unfolding bad_length
returns-then-old-lt512 c = rw (lt-ltb _ _ c.if-old-lt512.true)

pub returns-then-n-old : goal.returns-then-n-old
unfolding bad_length
returns-then-n-old c = rw (le-ltb _ _ c.if-old-lt512.false, lt-ltb _ _ c.if-n-old.true)

pub returns : goal.returns
unfolding bad_length
returns c = rw (le-ltb _ _ c.if-old-lt512.false, le-ltb _ _ c.if-n-old.false) (ap (λ (x : ℕ). not (eqb x 0)) c.rest.ensures.0)
