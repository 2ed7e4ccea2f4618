use native.Mathlib.Omega.{arith}
use Prim.Native.Nat.{ℕ, ◌+◌, ◌-◌, ◌*◌, ◌^◌}
use mathlib.Core.Path.{◌≡◌, refl}
use mathlib.Core.List.{List, [], ◌∷◌, ◌++◌}
use lib.ListN.{length}
use Rattle.units.specs.Units.{UnitStore, count, entry, fill}
use Rattle.units.proofs.Laws.{length-fill}
use Rattle.endian.specs.Big.{splice}
use Rattle.fills.specs.Padded.{padded}
use Rattle.fills.proofs.Fills.{length_over}
use Rattle.qcow2_spec.specs.Entries.{new_entry}
use lib.ListN.{replicate, length-append, length-replicate}
use Rattle.qcow2_put.specs.Links.{table_units}
use Rattle.units.proofs.Steps.{two, stored}
use Rattle.qcow2_put.proofs.linking.put_table.Goals as goal

pub returns : goal.returns
unfolding new_entry table_units
returns c =
    let a = c.args in
    let p = a.p in
    let l = a.image.now in
    let x = c.allot_zeros-left in
    let y = c.allot-rest in
    let z = c.put_two in
    let U : List UnitStore = count (2 ^ p.order) p.tablecount 1 ∷ fill p.table (replicate a.c 0) in
    let E : List ℕ = splice (padded a.c a.base.now) a.o a.src.now in
    let D : List UnitStore = count (2 ^ p.order) p.datacount 1 ∷ fill p.place E in
    let W : List UnitStore = entry p.slot (p.place + 9223372036854775808) ∷ entry p.link (p.table + 9223372036854775808) ∷ [] in
    let R : List ℕ = replicate a.c 0 in
    let n : length R ≡ a.c = length-replicate a.c 0 in
    let u : length U ≡ 1 + a.c = omega (arith, length-fill R p.table) in
    let v : length D ≡ 1 + a.c = omega (arith, length-fill E p.place, length_over a.c a.base.now a.o a.src.now c.requires.1.1 c.requires.1.0) in
    let m : length (U ++ D) ≡ 1 + a.c + (1 + a.c) = rw (length-append, u, v) refl in
    let f : length (U ++ D ++ W) ≡ 2 * a.c + 4 = rw (length-append, m) (omega arith) in
    let g : y.result ≡ a.allowance - (1 + a.c + (1 + a.c)) = omega arith in
    let h = two U D l x.new.image y.new.image a.allowance x.result (1 + a.c) u x.ensures.0 x.ensures.1 y.ensures.1 in
    stored (U ++ D ++ W) _ _ _ _ (2 * a.c + 4) f c.end_of.ensures
    (two (U ++ D) W l y.new.image z.new.image a.allowance y.result (1 + a.c + (1 + a.c)) m g h z.ensures)
