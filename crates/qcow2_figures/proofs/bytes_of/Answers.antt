use native.Mathlib.Omega.{arith}
use native.Mathlib.Nat.{mul-le-mul}
use Prim.Native.Nat.{◌*◌, ◌≤◌}
use lib.Pow.{pow_mono}
use Rattle.qcow2_figures.proofs.bytes_of.Goals as goal
use Rattle.qcow2_figures.proofs.bytes_of.Goals.{After-power}

few : (c : After-power) → c.power.result * c.args.m ≤ 64 * 4096
few c =
    let p = c.requires in
    let h : c.power.result ≤ 64 = omega (arith, c.power.ensures.0, pow_mono p.0) in
    mul-le-mul h p.1

pub overflow_mul-result : goal.overflow_mul-result
overflow_mul-result c = omega (arith, few (goal.at.overflow_mul-result c).After-power)

pub overflow_add-result : goal.overflow_add-result
overflow_add-result c = omega (arith, few (goal.at.overflow_add-result c).After-power)

pub returns : goal.returns
returns c = rw c.power.ensures.0
