use native.Mathlib.Omega.{arith}
use Prim.Native.Nat.{◌+◌, ◌*◌, ◌/◌, ◌^◌}
use mathlib.Core.Path.{◌≡◌}
use lib.ListN.{length}
use Rattle.qcow2_marks.proofs.Rights.{rights_none, rights_then}
use Rattle.qcow2_marks.proofs.front_right.Goals as goal

pub loop-d-init : goal.loop-d-init
loop-d-init c = let a = c.args in rights_none (2 ^ a.bits) a.scratch.now a.table.now 0

pub group_right-k-requires : goal.group_right-k-requires
group_right-k-requires c = (c.requires, omega arith)

pub returns-then-k-j : goal.returns-then-k-j
returns-then-k-j c =
    let a = c.args in
    (omega arith, rights_then (2 ^ a.bits) a.scratch.now a.table.now 0 (64 * c.loop-d.d) c.group_right-k.result c.loop-d.invariant c.group_right-k.ensures.1)

pub loop-d-preserved : goal.loop-d-preserved
loop-d-preserved c =
    let a = c.args in
    let e : c.group_right-k.result ≡ 64 * (c.loop-d.d + 1) = omega arith in
    rw e at (rights_then (2 ^ a.bits) a.scratch.now a.table.now 0 (64 * c.loop-d.d) c.group_right-k.result c.loop-d.invariant c.group_right-k.ensures.1)

pub returns : goal.returns
returns c =
    let e : c.loop-d.d ≡ length c.args.table.now / 512 = omega arith in
    (omega arith, rw e at c.loop-d.invariant)
