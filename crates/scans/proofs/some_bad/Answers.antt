use native.Mathlib.Omega.{arith}
use Prim.Native.Nat.{ℕ}
use mathlib.Core.Path.{ap}
use mathlib.Core.Bool.{false}
use Rattle.tally.specs.States.{flag, flag_at}
use Rattle.scans.proofs.Flags.{some_first, some_next, some_done}
use Rattle.scans.proofs.some_bad.Goals as goal

pub loop-k-init : goal.loop-k-init
loop-k-init c = let a = c.args in some_first (flag_at false a.scratch.now) a.n

pub loop-k-preserved : goal.loop-k-preserved
loop-k-preserved c =
    let a = c.args in
    let l = c.loop-k in
    let p = flag_at false a.scratch.now in
    let e = ap (λ (x : ℕ). flag false x) c.turned.ensures in
    rw (c.flag_or-found.ensures, e) (some_next p a.n l.k l.found (omega arith) l.invariant)

pub returns : goal.returns
returns c =
    let a = c.args in
    some_done (flag_at false a.scratch.now) a.n c.loop-k.k c.loop-k.found (omega arith) c.loop-k.invariant
