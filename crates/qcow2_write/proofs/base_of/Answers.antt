use borrow.Author.Tests.{not-true, not-false}
use native.Mathlib.Omega.{arith}
use Prim.Native.Nat.{ℕ, ◌+◌, ◌-◌, ◌*◌}
use mathlib.Core.Path.{◌≡◌, ap}
use Rattle.qcow2_write.proofs.Bases.{base_none, base_part}
use Rattle.qcow2_write.proofs.base_of.Goals as goal

pub returns-then-not-g : goal.returns-then-not-g
returns-then-not-g c =
    let a = c.args in
    base_none a.g a.backing.now a.guest (not-true _ c.if-not-g.true)

pub overflow_mul-x : goal.overflow_mul-x
overflow_mul-x c = omega (arith, c.requires, ap (λ (y : ℕ). c.args.guest * y) c.bytes_of-c.ensures.0)

pub overflow_sub-g : goal.overflow_sub-g
overflow_sub-g c = omega (arith, c.requires, ap (λ (y : ℕ). c.args.guest * y) c.bytes_of-c.ensures.0)

pub returns : goal.returns
returns c =
    let a = c.args in
    let b = c.bytes_of-c.ensures.0 in
    let m = c.min-m.ensures in
    let t = c.min-at in
    let k = c.min-k in
    let d : t.result + k.result - t.result ≡ k.result = omega arith in
    rw d (base_part a.g a.backing.now a.guest (not-false _ c.if-not-g.false) c.min-m.result t.result k.result (rw b at m) (rw b at t.ensures) k.ensures)
