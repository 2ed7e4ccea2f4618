use mathlib.Core.Path.{ap, ◌∙◌}
use Rattle.qcow2_codes.specs.Codes.{outcome_code, outcome_units}
use Rattle.qcow2_c.proofs.qcow2_backed_discard.Goals as goal

pub returns : goal.returns
returns c =
    let d = c.discard-o.ensures in
    let r = rw c.numbered.ensures at c.put_outcome.ensures in
    ((r.0 ∙ ap outcome_code d.answer, r.1 ∙ ap outcome_units d.answer), d.left)
