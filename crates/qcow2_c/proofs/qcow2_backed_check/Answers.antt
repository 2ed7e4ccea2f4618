use mathlib.Core.Path.{ap, ◌∙◌}
use Rattle.qcow2_codes.specs.Codes.{verdict_code, verdict_first, verdict_second, verdict_third}
use Rattle.qcow2_c.proofs.qcow2_backed_check.Goals as goal

pub returns : goal.returns
returns c =
    let e = c.check-v.ensures in
    let r = c.put_verdict.ensures in
    (((r.0.0 ∙ ap verdict_code e.0, r.0.1 ∙ ap verdict_first e.0), (r.1.0 ∙ ap verdict_second e.0, r.1.1 ∙ ap verdict_third e.0)), e.1)
