use native.Mathlib.Omega.{arith}
use Prim.Native.Nat.{◌*◌, ◌≤◌}
use lib.ListN.{length}
use Rattle.qcow2_freecount.proofs.zeros_any.Goals as goal

pub zeros_in-requires : goal.zeros_in-requires
zeros_in-requires c =
    let h : 16 * c.args.m ≤ 8 * length c.args.block.now = rw c.if-order-eq4.true at c.requires.0.1 in
    omega arith

pub returns-then-order-eq4 : goal.returns-then-order-eq4
returns-then-order-eq4 c = rw c.if-order-eq4.true c.zeros_in.ensures

pub zeros_packed-requires : goal.zeros_packed-requires
zeros_packed-requires c = c.requires
