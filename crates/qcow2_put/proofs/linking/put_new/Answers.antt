use native.Mathlib.Omega.{arith}
use Prim.Native.Nat.{ℕ, ◌+◌, ◌^◌}
use mathlib.Core.Path.{◌≡◌}
use mathlib.Core.List.{List, [], ◌∷◌, ◌++◌}
use lib.ListN.{length}
use Rattle.units.specs.Units.{UnitStore, count, entry, fill}
use Rattle.units.proofs.Laws.{length-fill}
use Rattle.endian.specs.Big.{splice}
use Rattle.fills.specs.Padded.{padded}
use Rattle.fills.proofs.Fills.{length_over}
use Rattle.qcow2_spec.specs.Entries.{new_entry}
use Rattle.units.proofs.Steps.{two, stored, length_more}
use Rattle.qcow2_put.proofs.linking.put_new.Goals as goal

pub returns : goal.returns
unfolding new_entry
returns c =
    let a = c.args in
    let n = c.allot-left in
    let e = c.store_entry in
    let D : List ℕ = splice (padded a.c a.base.now) a.o a.src.now in
    let U : List UnitStore = count (2 ^ a.order) a.count_at 1 ∷ fill a.at D in
    let u : UnitStore = entry a.entry_at (a.at + 9223372036854775808) in
    let l : length U ≡ 1 + a.c = omega (arith, length-fill D a.at, length_over a.c a.base.now a.o a.src.now c.requires.1.under c.requires.1.fits) in
    stored (U ++ u ∷ []) _ _ _ _ (a.c + 2) (length_more U u (1 + a.c) (a.c + 2) l (omega arith)) c.end_of.ensures
    (two U (u ∷ []) a.image.now n.new.image e.new.image a.allowance n.result (1 + a.c) l n.ensures.0 n.ensures.1 e.ensures.1)
