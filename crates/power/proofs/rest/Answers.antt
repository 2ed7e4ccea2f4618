use Prim.Native.Nat.{◌-◌, ◌%◌, ◌^◌, ◌<◌}
use mathlib.Core.Path.{◌≡◌}
use native.Mathlib.Nat.{mod-lt}
use native.Mathlib.Omega.{arith}
use lib.Bits.{bit_and, and_mask}
use lib.Pow.{pow_pos}
use Rattle.power.proofs.rest.Goals as goal

pub returns : goal.returns
returns c =
    let x = c.args.x in
    let b = c.args.bits in
    let e : bit_and x (c.power.result - 1) ≡ x % 2 ^ b = rw c.power.ensures.0 (and_mask x b) in
    let l : x % 2 ^ b < 2 ^ b = mod-lt x (pow_pos b) in
    (e, (omega arith, omega arith))
