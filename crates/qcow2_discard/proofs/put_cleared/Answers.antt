use mathlib.Core.Path.{refl}
use mathlib.Core.List.{[], ◌∷◌}
use Rattle.units.specs.Units.{entry}
use Rattle.units.proofs.Steps.{stored}
use Rattle.qcow2_discard.proofs.put_cleared.Goals as goal

pub returns : goal.returns
returns c =
    let a = c.args in
    stored (entry a.at a.value ∷ []) _ _ _ _ 1 refl c.end_of.ensures c.store_entry.ensures.1
