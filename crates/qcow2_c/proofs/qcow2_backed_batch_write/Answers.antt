-- `qcow2_c::qcow2_backed_batch_write` meets its contract. Assumes nothing.
use mathlib.Core.Path.{ap, ◌∙◌}
use Rattle.qcow2_codes.specs.Codes.{planned_code, planned_rows}
use Rattle.qcow2_c.proofs.qcow2_backed_batch_write.Goals as goal

pub returns : goal.returns
returns c d q =
    let e = c.batch_write-p.ensures d q in
    let r = rw c.numbered.ensures at c.put_planned.ensures in
    ((r.0 ∙ ap planned_code e.answer, r.1 ∙ ap planned_rows e.answer), e.left)
