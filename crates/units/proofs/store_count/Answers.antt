use native.Mathlib.Omega.{arith}
use Prim.Native.Nat.{◌^◌}
use mathlib.Core.Path.{◌∙◌}
use Rattle.units.specs.Units.{count}
use Rattle.units.proofs.Laws.{one_none, count-some}
use Rattle.units.proofs.store_count.Goals as goal

pub returns-then-left-eq0 : goal.returns-then-left-eq0
returns-then-left-eq0 c =
    let a = c.args in
    (omega arith, one_none (count (2 ^ a.order) a.at a.x) a.image.now a.left (omega arith))

pub returns : goal.returns
returns c =
    let a = c.args in
    (omega arith, c.store.ensures ∙ count-some a.image.now (2 ^ a.order) a.at a.x a.left (λ e. omega arith))
