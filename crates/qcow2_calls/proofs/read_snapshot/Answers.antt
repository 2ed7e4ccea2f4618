use native.Mathlib.Omega.{arith}
use Prim.Native.Nat.{suc, ◌≤◌}
use mathlib.Core.Path.{◌≡◌, sym, ap}
use lib.ListN.{length}
use Rattle.qcow2_spec.specs.Causes.{answer}
use Rattle.qcow2_calls.proofs.Shots.{shot_none, shot_kept}
use Rattle.qcow2_calls.proofs.read_snapshot.Goals as goal

pub returns-then-g-snapshot : goal.returns-then-g-snapshot
returns-then-g-snapshot c =
    let a = c.args in
    let s = a.image.now in
    let o = a.out.now in
    let h : a.g.snapshots ≤ a.snapshot = omega (arith, c.if-g-snapshot.true) in
    rw c.into.ensures (sym (ap answer (shot_none a.g s c.requires a.snapshot a.x h (length o))), sym (shot_kept a.g s c.requires a.snapshot a.x h a.backing.now o))

pub snapshot_root-root-requires : goal.snapshot_root-root-requires
snapshot_root-root-requires c =
    (c.requires.0, omega (arith, c.requires.0.is-snapshots, c.if-g-snapshot.false))

pub read_into-requires : goal.read_into-requires
read_into-requires c = c.snapshot_root-root.ensures.0

pub returns : goal.returns
returns c =
    let r = c.snapshot_root-root in
    let e : r.result.root ≡ suc c.args.snapshot = r.ensures.1 in
    rw (← e) c.read_into.ensures
