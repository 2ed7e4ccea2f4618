use native.Mathlib.Omega.{arith}
use Prim.Native.Nat.{ℕ, ◌*◌, ◌^◌}
use mathlib.Core.Path.{◌≡◌, ap}
use Rattle.packed.proofs.Laws.{lie_place}
use Rattle.packed_search.proofs.Groups.{group_end, group_test}
use Rattle.packed_search.proofs.zero_near.Goals as goal

pub overflow_mul-at : goal.overflow_mul-at
overflow_mul-at g c =
    let k = c.args.k in
    let e : c.power.result * k ≡ 2 ^ c.args.order * k = ap (λ (x : ℕ). x * k) c.power.ensures.0 in
    omega (arith, lie_place c.requires.0.0 k (omega arith))

pub slice_bounds-zero_in-end : goal.slice_bounds-zero_in-end
slice_bounds-zero_in-end g c =
    let a = c.args in
    rw c.power-n.ensures.0 (group_end a.order g.row.E (omega (arith, c.requires.0.0.few, c.requires.1.0)) a.block.now a.k c.power.result c.power.ensures.0 c.requires.0.1 c.requires.0.0)

pub overflow_add-at : goal.overflow_add-at
overflow_add-at g c = omega (arith, slice_bounds-zero_in-end g c, c.requires.0.0.short)

pub returns : goal.returns
returns g c =
    let a = c.args in
    let p = c.power in
    let h = rw c.power-n.ensures.0 at c.zero_in.ensures in
    group_test a.order g.row.E (omega (arith, c.requires.0.0.few, c.requires.1.0)) a.block.now a.k p.result p.ensures.0 c.requires.0.1 c.requires.0.0 h
