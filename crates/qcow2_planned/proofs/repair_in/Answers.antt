-- `qcow2_planned::repair_in` meets its contract. Assumes nothing.
use Prim.Native.Nat.{◌/◌, ◌<◌}
use native.Mathlib.Omega.{arith}
use mathlib.Core.Path.{◌∙◌}
use lib.ListN.{length}
use Rattle.qcow2_repair.proofs.Rooms.{repair-short, repair-room, scratch-short, scratch-room, left_figured}
use Rattle.qcow2_phases.proofs.Plannings.{planning_refused}
use Rattle.qcow2_planned.proofs.repair_in.Goals as goal

pub returns-then-scratch-g : goal.returns-then-scratch-g
returns-then-scratch-g c =
    let a = c.args in
    let s = a.image.now in
    let t = a.scratch.now in
    let h : length t / 2 < a.g.clusters = omega (arith, c.if-scratch-g.true) in
    rw c.into.ensures (planning_refused s _ a.k a.rows.now 15 (repair-short a.g s c.requires.0 (length t) h), scratch-short a.g s c.requires.0 t h)

pub check-v-requires : goal.check-v-requires
check-v-requires c = (c.requires, omega (arith, c.if-scratch-g.false))

pub plan_repair-requires : goal.plan_repair-requires
plan_repair-requires c =
    let e = c.check-v.ensures in
    ((c.requires.0, left_figured c.args.image.now c.args.scratch.now _ e.1), e.0)

pub returns : goal.returns
returns c =
    let a = c.args in
    let s = a.image.now in
    let t = a.scratch.now in
    let h = c.if-scratch-g.false in
    let v = c.check-v in
    (rw (repair-room a.g s c.requires.0 (length t) v.result h v.ensures.0) c.plan_repair.ensures, v.ensures.1 ∙ scratch-room a.g s c.requires.0 t h)
