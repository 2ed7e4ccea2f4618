use native.Mathlib.Omega.{arith}
use Prim.Native.Nat.{ℕ, ◌+◌, ◌-◌, ◌*◌, ◌^◌, ◌≤◌}
use mathlib.Core.Path.{◌≡◌, refl}
use mathlib.Core.List.{List}
use lib.ListN.{length}
use Rattle.packed.specs.Figures.{Ready}
use Rattle.packed_narrow.proofs.Groups.{bytes_in, part_grouped, part-counted}
use Rattle.packed_narrow.proofs.group_at.Goals as goal

-- the bytes lie in the block
inside : (o : ℕ) (B F : List ℕ) (q k d : ℕ) → o ≤ 3 → Ready o B F → q ≡ 2 ^ (3 - o) → q * (k + d) ≤ length F → k + d ≤ length B
inside o B F q k d h r e f = bytes_in o h (length B) (length F) (k + d) r.0.0.fits (rw (← e) f)

pub overflow_add-k : goal.overflow_add-k
overflow_add-k c =
    let a = c.args in
    omega (arith, inside a.order a.block.now a.figures.now a.per a.k a.d c.requires.0 c.requires.1 c.requires.2 c.requires.4)

pub slice_bounds-group-end : goal.slice_bounds-group-end
slice_bounds-group-end c =
    let a = c.args in
    inside a.order a.block.now a.figures.now a.per a.k a.d c.requires.0 c.requires.1 c.requires.2 c.requires.4

pub overflow_add-k-2 : goal.overflow_add-k-2
overflow_add-k-2 c =
    let a = c.args in
    omega (arith, inside a.order a.block.now a.figures.now a.per a.k a.d c.requires.0 c.requires.1 c.requires.2 c.requires.4)

pub group-requires : goal.group-requires
group-requires c =
    let a = c.args in
    (c.requires.0, part_grouped a.order a.block.now a.figures.now _ _ a.per a.k a.d c.requires.0 c.requires.1 c.requires.2 c.requires.4 refl refl c.requires.3)

pub returns : goal.returns
returns c =
    let a = c.args in
    part-counted a.order a.block.now a.figures.now _ _ a.per a.k a.d c.requires.0 c.requires.1 c.requires.2 c.requires.4 refl refl _ _ c.group.ensures
