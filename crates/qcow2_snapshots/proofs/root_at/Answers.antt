use native.Mathlib.Omega.{arith}
use Rattle.qcow2_spec.proofs.Facts.{facts, root-count}
use Rattle.qcow2_snapshots.proofs.root_at.Goals as goal

pub snapshot_root-requires : goal.snapshot_root-requires
snapshot_root-requires c =
    let o = c.requires.0.0 in
    (o, omega (arith, root-count c.args.image.now (facts _ o.accepted)))
