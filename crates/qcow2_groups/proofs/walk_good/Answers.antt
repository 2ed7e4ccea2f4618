use Rattle.std.proofs.Common.{◌≡◌, ◌+◌, ◌*◌, ◌/◌, length, arith}
use Rattle.qcow2_groups.proofs.Walks.{walking_then}
use Rattle.qcow2_groups.proofs.walk_good.Goals as goal

pub returns-then-k-j : goal.returns-then-k-j
returns-then-k-j c =
    (omega arith, walking_then c.loop-d.invariant c.walk_group-k.ensures.1)

pub loop-d-preserved : goal.loop-d-preserved
loop-d-preserved c =
    let e : c.walk_group-k.result ≡ 64 * (c.loop-d.d + 1) = omega arith in
    walking_then c.loop-d.invariant (rw e at c.walk_group-k.ensures.1)

pub returns : goal.returns
returns c =
    let e : c.loop-d.d ≡ length c.args.table.now / 512 = omega arith in
    (omega arith, rw e at c.loop-d.invariant)
