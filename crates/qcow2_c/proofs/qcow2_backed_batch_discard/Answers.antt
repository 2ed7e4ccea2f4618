-- `qcow2_c::qcow2_backed_batch_discard` meets its contract. Assumes nothing.
use mathlib.Core.Path.{ap, ◌∙◌}
use Rattle.qcow2_codes.specs.Codes.{planned_code, planned_rows}
use Rattle.qcow2_c.proofs.qcow2_backed_batch_discard.Goals as goal

pub returns : goal.returns
returns c =
    let e = c.batch_discard-p.ensures in
    let r = rw c.numbered.ensures at c.put_planned.ensures in
    ((r.0 ∙ ap planned_code e.answer, r.1 ∙ ap planned_rows e.answer), e.left)
