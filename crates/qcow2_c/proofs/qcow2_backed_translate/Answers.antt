use mathlib.Core.Path.{ap, ◌∙◌}
use Rattle.qcow2_spec.specs.Runs.{found_code, found_host}
use Rattle.qcow2_c.proofs.qcow2_backed_translate.Goals as goal

pub returns : goal.returns
returns c =
    let e = c.translate-f.ensures in
    (c.found_code.ensures ∙ ap found_code e, c.found_host.ensures ∙ ap found_host e)
