use native.Mathlib.Omega.{arith}
use Prim.Native.Nat.{◌-◌}
use mathlib.Core.Path.{◌≡◌}
use Rattle.qcow2_extend.proofs.making.own_byte.Goals as goal

pub returns-then-order-lt3 : goal.returns-then-order-lt3
returns-then-order-lt3 c = let e : c.args.order - 3 ≡ 0 = omega arith in rw e

pub returns : goal.returns
returns c = rw c.power.ensures.0
