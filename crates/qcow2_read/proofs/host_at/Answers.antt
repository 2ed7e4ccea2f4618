use native.Mathlib.Omega.{arith}
use native.Mathlib.Nat.{div-add-mod', mul-div-mul_left}
use lib.Pow.{pow-add}
use Rattle.qcow2_plain.specs.Plain.{bare}
use Prim.Native.Nat.{ℕ, ◌+◌, ◌*◌, ◌/◌, ◌%◌, ◌^◌}
use mathlib.Core.Path.{◌≡◌}
use Rattle.qcow2_read.proofs.host_at.Goals as goal
use Rattle.qcow2_read.proofs.host_at.Goals.{After-power}

-- a multiple of 2 ^ b by the quotient of twice the number
back : (x b t q d : ℕ) → x % 2 ^ b ≡ 0 → t ≡ 2 * x → q ≡ t / 2 ^ (b + 1) → d ≡ 2 ^ b → q * d ≡ x
back x b t q d z u e f =
    let p : 2 ^ (b + 1) ≡ 2 * 2 ^ b = omega (arith, pow-add 2 b 1) in
    let h : 2 * x / (2 * 2 ^ b) ≡ x / 2 ^ b = mul-div-mul_left x (2 ^ b) (omega arith) in
    rw (e, f, u, p, h) (omega (arith, div-add-mod' x (2 ^ b), z))

place : (c : After-power) → c.quotient-c.result * c.power.result ≡ bare c.args.e
place c =
    back (bare c.args.e) c.args.bits c.twice.result c.quotient-c.result c.power.result c.requires.1.1 c.twice.ensures c.quotient-c.ensures.0 c.power.ensures.0

pub overflow_mul-result : goal.overflow_mul-result
overflow_mul-result c = omega (arith, place (goal.at.overflow_mul-result c).After-power, c.requires.1.0)

pub overflow_add-result : goal.overflow_add-result
overflow_add-result c = omega (arith, place (goal.at.overflow_add-result c).After-power, c.requires.1.0)

pub returns : goal.returns
returns c = omega (arith, place (goal.at.returns c).After-power, c.rest.ensures.0)
