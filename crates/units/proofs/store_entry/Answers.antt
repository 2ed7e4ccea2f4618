use native.Mathlib.Omega.{arith}
use mathlib.Core.Path.{◌∙◌}
use Rattle.units.specs.Units.{entry}
use Rattle.units.proofs.Laws.{one_none, entry-some}
use Rattle.units.proofs.store_entry.Goals as goal

pub returns-then-left-eq0 : goal.returns-then-left-eq0
returns-then-left-eq0 c =
    let a = c.args in
    (omega arith, one_none (entry a.at a.x) a.image.now a.left (omega arith))

pub returns : goal.returns
returns c =
    let a = c.args in
    (omega arith, c.store64.ensures ∙ entry-some a.image.now a.at a.x a.left c.requires (λ e. omega arith))
