use native.Mathlib.Omega.{arith}
use mathlib.Core.Path.{refl, ◌∙◌}
use lib.ListN.{length}
use Rattle.units.proofs.Steps.{refusal}
use Rattle.qcow2_repair.proofs.Rooms.{repair-short, repair-room, scratch-short, scratch-room, left_figured}
use Rattle.qcow2_calls.proofs.repair.Goals as goal

pub returns-then-g-scratch : goal.returns-then-g-scratch
returns-then-g-scratch c =
    let a = c.args in
    let s = a.image.now in
    let t = a.scratch.now in
    (rw (c.into.ensures, repair-short a.g s c.requires.0 (length t) c.if-g-scratch.true) (refusal 15 a.allowance s _ refl), scratch-short a.g s c.requires.0 t c.if-g-scratch.true)

pub check-v-requires : goal.check-v-requires
check-v-requires c = (c.requires, omega (arith, c.if-g-scratch.false))

pub verdict_repair-requires : goal.verdict_repair-requires
verdict_repair-requires c =
    let a = c.args in
    let e = c.check-v.ensures in
    ((c.requires.0, left_figured a.image.now a.scratch.now _ e.1), e.0)

pub returns : goal.returns
returns c =
    let a = c.args in
    let s = a.image.now in
    let t = a.scratch.now in
    let h = c.if-g-scratch.false in
    let v = c.check-v in
    (rw (repair-room a.g s c.requires.0 (length t) v.result h v.ensures.0) c.verdict_repair.ensures, v.ensures.1 ∙ scratch-room a.g s c.requires.0 t h)
