use Prim.Native.Nat.{◌+◌}
use mathlib.Core.Path.{◌≡◌, refl}
use mathlib.Core.List.{List, [], ◌∷◌, ◌++◌}
use lib.ListN.{length}
use Rattle.units.specs.Units.{UnitStore, entry, fill, cluster}
use Rattle.qcow2_spec.specs.Entries.{new_entry}
use Rattle.fills.proofs.Fills.{over_zeros}
use Rattle.units.proofs.Steps.{two, stored, length-filled, length_more}
use Rattle.qcow2_put.proofs.linking.put_marked.Goals as goal

pub returns : goal.returns
unfolding new_entry
returns c =
    let a = c.args in
    let f = c.store_cluster-rest in
    let e = c.store_entry in
    let U : List UnitStore = fill a.at (cluster a.c a.o a.src.now) in
    let u : UnitStore = entry a.entry_at (a.at + 9223372036854775808) in
    let l : length U ≡ a.c = length-filled a.at a.c a.o a.src.now c.requires.fits in
    stored (U ++ u ∷ []) _ _ _ _ (a.c + 1) (length_more U u a.c (a.c + 1) l refl) c.end_of.ensures
    (two U (u ∷ []) a.image.now f.new.image e.new.image a.allowance f.result a.c l f.ensures.0 (rw (over_zeros a.c a.o a.src.now c.requires.fits) at f.ensures.1) e.ensures.1)
