use native.Mathlib.Omega.{arith}
use Prim.Native.Nat.{◌-◌}
use mathlib.Core.Path.{refl, ◌∙◌}
use Rattle.qcow2_extend.proofs.Makes.{made-next, made_done}
use Rattle.qcow2_extend.proofs.making.make_all.Goals as goal

pub loop-i-init : goal.loop-i-init
loop-i-init c = (refl, refl)

pub make_block-rest-requires : goal.make_block-rest-requires
make_block-rest-requires c = (rw c.loop-i.invariant.0 c.requires.0, omega (arith, c.requires.1.0))

pub loop-i-preserved : goal.loop-i-preserved
loop-i-preserved c =
    let a = c.args in
    let l = c.loop-i in
    let r = c.make_block-rest in
    (r.auto.image ∙ l.invariant.0, made-next a.p a.start a.marks.now l.i a.end l.rest l.image l.invariant.1 r.result r.new.image (omega arith) r.ensures.0 r.ensures.1)

pub returns : goal.returns
returns c =
    let a = c.args in
    let l = c.loop-i in
    made_done a.p a.start a.marks.now l.i a.end l.rest l.image l.invariant.1 (omega arith)
