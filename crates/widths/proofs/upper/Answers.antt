use native.Mathlib.Omega.{arith}
use native.Mathlib.Nat.{div-mul-le_self}
use Prim.Native.Nat.{◌*◌, ◌/◌, ◌^◌}
use mathlib.Core.Path.{◌≡◌, ap₂}
use Rattle.widths.proofs.upper.Goals as goal

pub overflow_mul-result : goal.overflow_mul-result
overflow_mul-result c =
    let a = c.args in
    let e : c.quotient.result * c.power.result ≡ a.x / 2 ^ a.b * 2 ^ a.b = ap₂ ◌*◌ c.quotient.ensures.0 c.power.ensures.0 in
    omega (arith, div-mul-le_self a.x (2 ^ a.b))

pub returns : goal.returns
returns c =
    let a = c.args in
    let e : c.quotient.result * c.power.result ≡ a.x / 2 ^ a.b * 2 ^ a.b = ap₂ ◌*◌ c.quotient.ensures.0 c.power.ensures.0 in
    (e, omega (arith, div-mul-le_self a.x (2 ^ a.b)))
