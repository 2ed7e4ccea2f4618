use native.Mathlib.Omega.{arith}
use Rattle.packed_twos.specs.Twos.{many}
use Rattle.qcow2_counts.proofs.Sizes.{row-part}
use Rattle.qcow2_repair.proofs.repair_block.Goals as goal

pub count_place-at-requires : goal.count_place-at-requires
count_place-at-requires c = c.requires.0.0

pub repair_any-requires : goal.repair_any-requires
repair_any-requires c =
    let p = c.requires in
    ((row-part c.count_place-at.ensures.1 (many c.args.refs.now) (omega (arith, p.0.1)), (p.0.0.named.short, p.1.0)), p.1.1)

pub returns : goal.returns
returns c = rw c.count_place-at.ensures.0 at c.repair_any.ensures
