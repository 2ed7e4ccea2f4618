use borrow.Author.Rules.{rules}
use native.Mathlib.Omega.{arith}
use mathlib.Core.Path.{◌≡◌, sym, ◌∙◌}
use Rattle.bit_figures.proofs.Laws.{alike_none, alike_one, alike_less, alike_append}
use Rattle.bit_figures.proofs.singles.Goals as goal

pub loop-j-init : goal.loop-j-init
loop-j-init c = alike_none _ _ _ _ (omega arith)

pub loop-j-preserved : goal.loop-j-preserved
loop-j-preserved c =
    let e : c.from.result ≡ c.load16.result = search rules in
    alike_append _ _ _ _ _ c.loop-j.invariant (alike_one _ _ c.loop-j.j (sym (e ∙ c.load16.ensures) ∙ c.if-from-load.false ∙ c.load.ensures))

pub returns : goal.returns
returns c = λ h. alike_less _ _ _ _ _ (omega arith) c.loop-j.invariant
