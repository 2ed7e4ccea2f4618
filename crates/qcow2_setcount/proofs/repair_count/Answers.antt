use native.Mathlib.Omega.{arith}
use mathlib.Core.Path.{sym, ◌∙◌}
use Rattle.qcow2_setcount.proofs.Fixes.{fix-right, fix-stored, fix-past}
use Rattle.qcow2_setcount.proofs.repair_count.Goals as goal

pub returns-then-load-want : goal.returns-then-load-want
returns-then-load-want c =
    let a = c.args in
    fix-right a.order a.image.now a.at a.want a.n a.allowance (sym c.load.ensures ∙ c.if-load-want.true)

pub returns-then-n-allowance : goal.returns-then-n-allowance
returns-then-n-allowance c =
    let a = c.args in
    fix-stored a.order a.image.now a.at a.want a.n a.allowance _ (λ z. c.if-load-want.false (c.load.ensures ∙ z)) c.if-n-allowance.true c.store.ensures

pub returns : goal.returns
returns c =
    let a = c.args in
    fix-past a.order a.image.now a.at a.want a.n a.allowance (λ z. c.if-load-want.false (c.load.ensures ∙ z)) (omega arith)
