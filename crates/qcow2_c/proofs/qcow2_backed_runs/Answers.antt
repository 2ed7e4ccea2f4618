use mathlib.Core.Path.{ap, ◌∙◌}
use Rattle.qcow2_codes.specs.Codes.{listed_code, listed_rows}
use Rattle.qcow2_c.proofs.qcow2_backed_runs.Goals as goal

pub returns : goal.returns
returns c =
    let e = c.runs-l.ensures in
    let r = rw c.numbered.ensures at c.put_listed.ensures in
    ((r.0 ∙ ap listed_code e.0, r.1 ∙ ap listed_rows e.0), e.1)
