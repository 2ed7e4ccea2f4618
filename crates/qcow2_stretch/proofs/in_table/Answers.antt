use native.Mathlib.Omega.{arith}
use native.Mathlib.Nat.{mul-le-mul}
use Prim.Native.Nat.{◌-◌, ◌≤◌}
use Rattle.qcow2_stretch.proofs.Below.{host_small, entries_asked, end_bounds, entries_go}
use Rattle.qcow2_stretch.proofs.in_table.Goals as goal

pub overflow_add-x : goal.overflow_add-x
overflow_add-x c = omega (arith, c.requires.1.0.fits, c.requires.0.0.far)

pub overflow_add-left : goal.overflow_add-left
overflow_add-left c = omega (arith, c.requires.1.0.fits, c.requires.0.0.far)

pub overflow_add-t : goal.overflow_add-t
overflow_add-t c = omega (arith, c.requires.1.1.inside, c.requires.0.0.is-cluster, c.power-c.ensures.0, c.requires.0.0.short)

pub slice_bounds-entries_end-end : goal.slice_bounds-entries_end-end
slice_bounds-entries_end-end c = omega (arith, c.requires.1.1.inside, c.requires.0.0.is-cluster, c.power-c.ensures.0)

pub entries_end-k-requires : goal.entries_end-k-requires
entries_end-k-requires c =
    let a = c.args in
    let p = c.requires.1.0 in (
      entries_asked a.g a.image.now c.requires.0.0 a.x a.f.now a.i a.left c.requires.0.1 c.requires.1.0 a.t c.requires.1.1 _ _ _ _ c.power-c.ensures.0 c.quotient.ensures.0 c.rest-from.ensures.0 c.quotient-2.ensures.0,
      omega (arith, host_small a.g a.image.now c.requires.0.0 a.x a.f.now (omega (arith, p.some, p.fits)) c.requires.0.1, p.fits, c.requires.0.0.far),
    )

pub overflow_sub-k : goal.overflow_sub-k
overflow_sub-k c =
    let a = c.args in
    (end_bounds a.g a.image.now c.requires.0.0 a.x a.f.now a.i a.left c.requires.0.1 c.requires.1.0 a.t c.requires.1.1 _ _ _ _ c.power-c.ensures.0 c.quotient.ensures.0 c.rest-from.ensures.0 c.quotient-2.ensures.0 _ c.entries_end-k.ensures).0

pub overflow_mul-k : goal.overflow_mul-k
overflow_mul-k c =
    let a = c.args in
    let d = end_bounds a.g a.image.now c.requires.0.0 a.x a.f.now a.i a.left c.requires.0.1 c.requires.1.0 a.t c.requires.1.1 _ _ _ _ c.power-c.ensures.0 c.quotient.ensures.0 c.rest-from.ensures.0 c.quotient-2.ensures.0 _ c.entries_end-k.ensures in
    let k : c.entries_end-k.result - c.rest-from.result ≤ 2147483648 = omega (arith, d.1, c.power-c.ensures) in
    let n : c.power-c.result ≤ 2147483648 = c.power-c.ensures.1.1 in
    omega (arith, mul-le-mul k n)

pub returns : goal.returns
returns c =
    let a = c.args in
    entries_go a.g a.image.now c.requires.0.0 a.x a.f.now a.i a.left c.requires.0.1 c.requires.1.0 a.t c.requires.1.1 _ _ _ _ c.power-c.ensures.0 c.quotient.ensures.0 c.rest-from.ensures.0 c.quotient-2.ensures.0 _ c.entries_end-k.ensures _ c.min.ensures
