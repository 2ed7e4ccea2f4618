use native.Mathlib.Omega.{arith}
use native.Mathlib.Nat.{mul-le-mul}
use Prim.Native.Nat.{◌*◌, ◌/◌, ◌≤◌}
use lib.Pow.{pow_mono}
use Rattle.qcow2_block.specs.Steps.{judged_on}
use Rattle.qcow2_block.proofs.judge_on.Goals as goal
use Rattle.qcow2_block.proofs.judge_on.Goals.{After-power}

few : (c : After-power) → c.power.result * (c.args.k / 8) ≤ 64 * c.args.k
few c = mul-le-mul (omega (arith, c.power.ensures.0, pow_mono c.requires.0)) (omega arith)

pub overflow_mul-result : goal.overflow_mul-result
overflow_mul-result c = omega (arith, few (goal.at.overflow_mul-result c).After-power, c.requires.1.0)

pub overflow_add-result-2 : goal.overflow_add-result-2
overflow_add-result-2 c = omega (arith, few (goal.at.overflow_add-result-2 c).After-power, c.requires.1.0, c.requires.1.1)

pub returns : goal.returns
unfolding judged_on
returns c = rw c.power.ensures.0
