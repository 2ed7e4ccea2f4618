use borrow.Author.Tests.{lt-ltb, le-ltb}
use native.Mathlib.Omega.{arith}
use native.Mathlib.Nat.{mul-le-mul}
use Prim.Native.Nat.{ℕ, ◌/◌, ◌^◌, ◌≤◌}
use mathlib.Core.Path.{◌≡◌}
use lib.Pow.{pow_mono}
use Rattle.qcow2_spec.specs.Header.{most_bits, most_l1}
use Rattle.qcow2_limits.specs.Limits.{oversize}
use Rattle.qcow2_limits.proofs.oversize.Goals as goal

pub returns-then-g-gt-MOST_SIZE : goal.returns-then-g-gt-MOST_SIZE
unfolding oversize
returns-then-g-gt-MOST_SIZE c = rw (lt-ltb _ _ c.if-g-gt-MOST_SIZE.true)

pub returns-then-g-gt-MOST_L1 : goal.returns-then-g-gt-MOST_L1
unfolding oversize
returns-then-g-gt-MOST_L1 c = rw (le-ltb _ _ c.if-g-gt-MOST_SIZE.false, lt-ltb most_l1 _ c.if-g-gt-MOST_L1.true)

-- the entries are few by now, so neither product wraps
eighth : (b p : ℕ) → b ≤ most_bits → p ≡ 2 ^ b → p / 8 ≤ 2 ^ most_bits / 8
eighth b p h e = omega (arith, pow_mono h)

pub overflow_mul-result : goal.overflow_mul-result
overflow_mul-result c =
    omega (arith, mul-le-mul c.if-g-gt-MOST_L1.false (eighth _ _ c.requires c.power-c.ensures.0))

pub overflow_mul-result-2 : goal.overflow_mul-result-2
overflow_mul-result-2 c =
    let h : c.power-c.result ≤ 2 ^ most_bits = omega (arith, pow_mono c.requires) in
    omega (arith, mul-le-mul (mul-le-mul c.if-g-gt-MOST_L1.false (eighth _ _ c.requires c.power-c.ensures.0)) h)

pub returns : goal.returns
unfolding oversize
returns c = rw (le-ltb _ _ c.if-g-gt-MOST_SIZE.false, le-ltb _ _ c.if-g-gt-MOST_L1.false, c.power-c.ensures.0)
