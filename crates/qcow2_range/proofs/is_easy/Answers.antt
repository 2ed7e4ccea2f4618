use mathlib.Core.Path.{sym, ◌∙◌}
use Rattle.qcow2_range.proofs.Rows.{easy_zero, easy_plain}
use Rattle.qcow2_range.proofs.is_easy.Goals as goal

pub returns-then-e-eq0 : goal.returns-then-e-eq0
returns-then-e-eq0 c = λ h v at. easy_zero v _ _ at _ c.if-e-eq0.true

pub returns : goal.returns
returns c =
    λ h v at. easy_plain v c.args.bits c.args.n at c.args.e c.requires.0.0 c.requires.1.1 (sym c.is_plain.ensures ∙ h)
