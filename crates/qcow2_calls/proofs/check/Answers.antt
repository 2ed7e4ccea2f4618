use Prim.Native.Nat.{◌/◌, ◌<◌}
use native.Mathlib.Omega.{arith}
use mathlib.Core.Path.{◌∙◌}
use lib.ListN.{length}
use Rattle.qcow2_repair.proofs.Rooms.{scratch-short, scratch-room}
use Rattle.qcow2_calls.proofs.Rooms.{check-short, check-room}
use Rattle.qcow2_calls.proofs.check.Goals as goal

pub returns-then-scratch-g : goal.returns-then-scratch-g
returns-then-scratch-g c =
    let s = c.args.image.now in
    let t = c.args.scratch.now in
    let h : length t / 2 < c.args.g.clusters = omega (arith, c.if-scratch-g.true) in
    (check-short c.args.g s c.requires.0 (length t) h, scratch-short c.args.g s c.requires.0 t h)

pub check-requires : goal.check-requires
check-requires c = (c.requires, omega (arith, c.if-scratch-g.false))

pub returns : goal.returns
returns c =
    let s = c.args.image.now in
    let t = c.args.scratch.now in
    let e = c.check.ensures in
    (e.0 ∙ check-room c.args.g s c.requires.0 (length t) c.if-scratch-g.false, e.1 ∙ scratch-room c.args.g s c.requires.0 t c.if-scratch-g.false)
