use native.Mathlib.Omega.{arith}
use Prim.Native.Nat.{◌+◌, ◌/◌}
use lib.Bits.{bit_and, and_le_r}
use Rattle.packed_filled.proofs.Filling.{ones_is}
use Rattle.packed_filled.proofs.ones.Goals as goal

pub overflow_add-twos : goal.overflow_add-twos
overflow_add-twos c = let x = c.args.x in omega (arith, and_le_r x 85, and_le_r (x / 2) 85)

pub overflow_add-fours : goal.overflow_add-fours
overflow_add-fours c =
    let x = c.args.x in
    let t = bit_and x 85 + bit_and (x / 2) 85 in
    omega (arith, and_le_r t 51, and_le_r (t / 4) 51)

pub overflow_add-result : goal.overflow_add-result
overflow_add-result c =
    let x = c.args.x in
    let t = bit_and x 85 + bit_and (x / 2) 85 in
    omega (arith, and_le_r t 51, and_le_r (t / 4) 51)

pub returns : goal.returns
returns c = ones_is c.args.x c.requires
