use mathlib.Core.Path.{ap, ◌∙◌}
use Rattle.qcow2_codes.specs.Codes.{listed_code, listed_rows}
use Rattle.qcow2_c.proofs.qcow2_backed_write_steps.Goals as goal

pub returns : goal.returns
returns c d q =
    let e = c.write_steps-l.ensures d q in
    let r = rw c.numbered.ensures at c.put_listed.ensures in
    ((r.0 ∙ ap listed_code e.answer, r.1 ∙ ap listed_rows e.answer), e.left)
