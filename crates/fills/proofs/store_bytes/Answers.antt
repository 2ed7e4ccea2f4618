use native.Mathlib.Omega.{arith}
use mathlib.Core.Path.{◌∙◌}
use Rattle.fills.proofs.Fills.{fill-splice}
use Rattle.fills.proofs.store_bytes.Goals as goal

pub returns : goal.returns
returns c =
    let a = c.args in
    let k = c.min-k in
    (omega (arith, k.ensures), c.bytes.ensures ∙ fill-splice a.image.now a.at a.left k.result a.src.now c.requires k.ensures)
