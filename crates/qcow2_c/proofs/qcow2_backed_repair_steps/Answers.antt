use mathlib.Core.Path.{ap, ◌∙◌}
use Rattle.qcow2_codes.specs.Codes.{listed_code, listed_rows}
use Rattle.qcow2_c.proofs.qcow2_backed_repair_steps.Goals as goal

pub returns : goal.returns
returns c =
    let e = c.repair_steps-l.ensures in
    let r = rw c.numbered.ensures at c.put_listed.ensures in
    ((r.0 ∙ ap listed_code e.0.answer, r.1 ∙ ap listed_rows e.0.answer), (e.0.left, e.1))
