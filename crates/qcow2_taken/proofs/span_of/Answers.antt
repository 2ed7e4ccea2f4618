use native.Mathlib.Omega.{arith}
use native.Mathlib.Nat.{mul-le-mul}
use Prim.Native.Nat.{◌+◌, ◌-◌, ◌*◌, ◌^◌, ◌≤◌}
use lib.Pow.{pow_mono}
use Rattle.qcow2_taken.proofs.span_of.Goals as goal
use Rattle.qcow2_taken.proofs.span_of.Goals.{After-power-2}

-- the greatest block with the narrowest counts
most : (c : After-power-2) → c.power.result * c.power-2.result ≤ 16777216 * 2097152
most c =
    let a = c.args in
    let p : 2 ^ (a.bits + 3 - a.order) ≤ 2 ^ 24 = pow_mono {i = a.bits + 3 - a.order} {j = 24} (omega (arith, c.requires)) in
    let q : 2 ^ a.bits ≤ 2 ^ 21 = pow_mono {i = a.bits} {j = 21} c.requires.1 in
    rw (c.power.ensures.0, c.power-2.ensures.0) (mul-le-mul p q)

pub overflow_mul-result : goal.overflow_mul-result
overflow_mul-result c = omega (arith, most (goal.at.overflow_mul-result c).After-power-2)

pub returns : goal.returns
returns c = (rw (c.power.ensures.0, c.power-2.ensures.0), omega (arith, most (goal.at.returns c).After-power-2))
