use native.Mathlib.Nat.{mul-le-mul_right}
use native.Mathlib.Omega.{arith}
use Prim.Native.Nat.{ℕ, ◌+◌, ◌*◌, ◌^◌, ◌≤◌}
use mathlib.Core.Path.{◌≡◌, ap}
use lib.Pow.{pow_mono}
use Rattle.qcow2_counts.proofs.bit_of.Goals as goal

small : (p o i : ℕ) → p ≡ 2 ^ o → o ≤ 6 → p * i ≤ 64 * i
small p o i e h =
    let m : 2 ^ o ≤ 64 = pow_mono {i = o} {j = 6} h in
    rw e (mul-le-mul_right i m)

pub overflow_mul-result-2 : goal.overflow_mul-result-2
overflow_mul-result-2 c = omega (arith, small c.power.result c.args.order c.args.i c.power.ensures.0 c.requires.0, c.requires)

pub overflow_add-result : goal.overflow_add-result
overflow_add-result c = omega (arith, small c.power.result c.args.order c.args.i c.power.ensures.0 c.requires.0, c.requires)

pub returns : goal.returns
returns c = ap (λ (x : ℕ). 8 * c.args.at + x * c.args.i) c.power.ensures.0
