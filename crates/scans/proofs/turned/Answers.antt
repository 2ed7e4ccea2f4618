use native.Mathlib.Omega.{arith}
use mathlib.Core.Path.{refl, ap, ◌∙◌}
use Rattle.scans.proofs.Flags.{turn, turn_is}
use Rattle.scans.proofs.turned.Goals as goal

pub returns : goal.returns
returns c =
    let a = c.args in
    ap turn c.from_le_bytes.ensures ∙ turn_is a.s.now a.at _ _ refl (omega (arith, c.type_inv.s a.at)) refl
