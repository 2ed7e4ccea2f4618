use native.Mathlib.Omega.{arith}
use mathlib.Core.Path.{◌≡◌, sym, ◌∙◌}
use Rattle.qcow2_swept.proofs.Blanks.{blank_none, blank_one}
use Rattle.qcow2_swept.proofs.skip.Goals as goal

pub returns-then-load64-ne0 : goal.returns-then-load64-ne0
returns-then-load64-ne0 c = (blank_none c.args.image.now c.args.at c.args.i, omega arith)

pub loop-j-init : goal.loop-j-init
loop-j-init c = c.skip_groups-j.ensures.0

pub returns-then-load64-ne0-2 : goal.returns-then-load64-ne0-2
returns-then-load64-ne0-2 c = (c.loop-j.invariant, omega arith)

pub loop-j-preserved : goal.loop-j-preserved
loop-j-preserved c =
    let a = c.args in
    blank_one a.image.now a.at a.i c.loop-j.j c.loop-j.invariant (sym c.load64-in-loop-j.ensures ∙ c.if-load64-ne0-2.false)

pub returns : goal.returns
returns c =
    let e : c.loop-j.j ≡ c.args.to = omega (arith, c.skip_groups-j.ensures.1) in
    (rw e at c.loop-j.invariant, omega arith)
