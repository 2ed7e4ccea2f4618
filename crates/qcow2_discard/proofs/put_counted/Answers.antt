use Prim.Native.Nat.{◌^◌}
use mathlib.Core.Path.{refl}
use mathlib.Core.List.{[], ◌∷◌}
use Rattle.units.specs.Units.{count, entry}
use Rattle.units.proofs.Steps.{stored}
use Rattle.qcow2_discard.proofs.put_counted.Goals as goal

pub returns : goal.returns
returns c =
    let a = c.args in
    stored (entry a.at a.value ∷ count (2 ^ a.order) a.count_at a.n ∷ []) _ _ _ _ 2 refl c.end_of.ensures c.put_two.ensures
