use native.Mathlib.Omega.{arith}
use Prim.Native.Nat.{◌^◌}
use mathlib.Core.Path.{refl}
use mathlib.Core.List.{[], ◌∷◌}
use Rattle.endian.specs.Big.{splice}
use Rattle.units.specs.Units.{count, fill}
use Rattle.fills.specs.Padded.{padded}
use Rattle.units.proofs.Steps.{two}
use Rattle.qcow2_put.proofs.linking.allot.Goals as goal

pub returns : goal.returns
returns c =
    let a = c.args in
    let n = c.store_count-rest in
    let f = c.store_cluster in
    (omega arith, two (count (2 ^ a.order) a.count_at 1 ∷ []) (fill a.at (splice (padded a.c a.base.now) a.o a.src.now)) a.image.now n.new.image f.new.image a.left n.result 1 refl n.ensures.0 n.ensures.1 f.ensures.1)
