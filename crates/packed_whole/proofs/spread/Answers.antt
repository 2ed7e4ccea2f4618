use Rattle.std.proofs.Common.{arith, ◌+◌, ◌^◌, ◌≤◌, sym, length}
use Rattle.std.proofs.Math.Nat.{mul-le-mul_left}
use Rattle.choice.proofs.Searches.{count_most}
use Rattle.packed.specs.Packed.{unlike_at, under_at}
use Rattle.packed_whole.proofs.Told.{count-more}
use Rattle.packed_whole.proofs.spread.Goals as goal

pub with-sums-requires : goal.with-sums-requires
with-sums-requires g c =
    let o = g.S.Sums.order in
    let B = c.args.block.now in
    let F = c.args.figures.now in
    let k = c.args.k in
    let j = c.loop-j.j in
    let h : k + j + 1 ≤ length F = omega (arith, c.requires.1) in
    (omega (arith, mul-le-mul_left (2 ^ o) h, c.requires.0.0.0.fits), c.requires.0.1 (k + j), omega (arith, c.loop-j.invariant.0, count_most (unlike_at o B F) k j, c.requires.0.0.1), omega (arith, c.loop-j.invariant.1, count_most (under_at o B F) k j, c.requires.0.0.1))

pub loop-j-preserved : goal.loop-j-preserved
unfolding unlike_at under_at
loop-j-preserved g c =
    let o = g.S.Sums.order in
    let B = c.args.block.now in
    let F = c.args.figures.now in
    (rw (c.with-sums.ensures.0, c.loop-j.invariant.0) (sym (count-more (unlike_at o B F) c.args.k c.loop-j.j)), rw (c.with-sums.ensures.1, c.loop-j.invariant.1) (sym (count-more (under_at o B F) c.args.k c.loop-j.j)))

pub told-requires : goal.told-requires
told-requires g c =
    let o = g.S.Sums.order in
    let B = c.args.block.now in
    let F = c.args.figures.now in
    (omega (arith, c.loop-j.invariant.0, count_most (unlike_at o B F) c.args.k c.loop-j.j, c.requires.0.0.1, c.requires.1), omega (arith, c.loop-j.invariant.1, count_most (under_at o B F) c.args.k c.loop-j.j, c.requires.0.0.1, c.requires.1))
