-- `qcow2_c::qcow2_backed_batch_repair` meets its contract. Assumes nothing.
use mathlib.Core.Path.{ap, ◌∙◌}
use Rattle.qcow2_codes.specs.Codes.{planned_code, planned_rows}
use Rattle.qcow2_c.proofs.qcow2_backed_batch_repair.Goals as goal

pub returns : goal.returns
returns c =
    let e = c.batch_repair-p.ensures in
    let r = rw c.numbered.ensures at c.put_planned.ensures in
    ((r.0 ∙ ap planned_code e.0.answer, r.1 ∙ ap planned_rows e.0.answer), (e.0.left, e.1))
