use native.Mathlib.Omega.{arith}
use Prim.Native.Nat.{◌*◌, ◌%◌, ◌^◌}
use mathlib.Core.Path.{◌≡◌, ap₂}
use Rattle.widths.proofs.Fields.{moved-small}
use Rattle.widths.proofs.moved.Goals as goal

pub overflow_mul-result : goal.overflow_mul-result
overflow_mul-result c =
    let a = c.args in
    let e : c.rest.result * c.power.result ≡ a.v % 2 ^ a.w * 2 ^ a.b = ap₂ ◌*◌ c.rest.ensures.0 c.power.ensures.0 in
    omega (arith, moved-small a.w a.b a.v c.requires)

pub returns : goal.returns
returns c =
    let a = c.args in
    let e : c.rest.result * c.power.result ≡ a.v % 2 ^ a.w * 2 ^ a.b = ap₂ ◌*◌ c.rest.ensures.0 c.power.ensures.0 in
    (e, omega (arith, moved-small a.w a.b a.v c.requires))
