use native.Mathlib.Omega.{arith}
use Rattle.qcow2_spec.specs.Header.{version, clusters, cluster_size, disk_size, l1_size, l1_at, table_at, table_clusters, width, blocks, per_block, snapshots, snapshots_at, root_size, root_at, backed, backing_offset}
use Rattle.qcow2_spec.specs.Guest.{reach}
use Rattle.qcow2_spec.specs.Opened.{geometry}
use Rattle.qcow2_headed.proofs.gather.Goals as goal

pub block_count-requires : goal.block_count-requires
block_count-requires c =
    let p = c.requires in
    ((omega (arith, p.narrow, p.sized.known.low), omega (arith, p.sized.known.high)), p.sized.short)

pub returns : goal.returns
unfolding geometry reach root_size root_at version clusters cluster_size disk_size l1_size l1_at table_at table_clusters width blocks per_block snapshots snapshots_at backed backing_offset
returns c =
    let p = c.requires.sized in
    record {
      is =
          rw (c.load64-5.ensures, c.load64-4.ensures, c.load32-4.ensures, c.block_count.ensures, c.quotient.ensures.0, c.load32-3.ensures, c.load64-3.ensures, c.load64-2.ensures, c.load32-2.ensures, c.load64.ensures, c.load32.ensures, c.order_of-order.ensures, c.load32-bits.ensures);
      low = omega arith;
      high = omega arith;
      long = p.known.long;
      short = p.short;
      room = rw c.load32-bits.ensures p.room;
      few = omega arith;
      brief = omega arith;
    }
