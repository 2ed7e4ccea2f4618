use native.Mathlib.Omega.{arith}
use Prim.Native.Nat.{◌+◌, ◌-◌, ◌≤◌}
use mathlib.Core.Path.{◌≡◌}
use lib.Pow.{pow_mono}
use Rattle.qcow2_counts.specs.Blocks.{per_of, count_place}
use Rattle.qcow2_counts.proofs.Sizes.{row-at}
use Rattle.qcow2_counts.proofs.count_place.Goals as goal

pub block_of-requires : goal.block_of-requires
block_of-requires c = let p = c.requires in (omega (arith, p.low, p.narrow), p.high)

pub block_place-at-requires : goal.block_place-at-requires
block_place-at-requires c = rw c.block_of.ensures c.requires.named

pub index_of-requires : goal.index_of-requires
index_of-requires c = let p = c.requires in (omega (arith, p.low, p.narrow), p.high)

pub bit_of-requires : goal.bit_of-requires
bit_of-requires c =
    let p = c.requires in
    let g = c.args.g in
    let m : per_of g ≤ 16777216 = pow_mono {i = g.bits + 3 - g.order} {j = 24} (omega (arith, p.high)) in
    (p.narrow, (omega (arith, c.block_place-at.ensures.1, p.named.short), omega (arith, m, c.index_of.ensures.1)))

pub returns : goal.returns
returns c =
    let a = c.args in
    let e : c.bit_of.result ≡ count_place a.g a.image.now a.k =
    rw (c.bit_of.ensures, c.block_place-at.ensures.0, c.block_of.ensures, c.index_of.ensures.0) in
    (e, rw e (row-at a.g a.image.now a.k c.requires))
