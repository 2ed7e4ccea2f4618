use Rattle.std.proofs.Common.{◌≡◌, length, arith, if◌then◌else◌}
use Rattle.packed.specs.Packed.{unlike_at, under_at}
use Rattle.packed.proofs.Laws.{count_next}
use Rattle.packed.proofs.Narrow.{packed8}
use Rattle.packed_bytes.proofs.group8.Goals as goal

pub loop-b-preserved : goal.loop-b-preserved
unfolding unlike_at under_at
loop-b-preserved c =
    let B = c.args.block.now in
    let F = c.args.figures.now in
    let b = c.loop-b.b in
    let p = packed8 B (λ i. omega (arith, c.type_inv.block i)) b in
    let e : c.unlike8-unlike.result ≡ (if unlike_at 3 B F b then 1 else 0) = rw p c.unlike8-unlike.ensures.0 in
    let f : c.under8-under.result ≡ (if under_at 3 B F b then 1 else 0) = rw p c.under8-under.ensures.0 in
    ((omega (arith, c.unlike8-unlike.ensures.1, c.loop-b.invariant.0.0), omega (arith, c.under8-under.ensures.1, c.loop-b.invariant.0.1)), omega (arith, e, count_next (unlike_at 3 B F) b, c.loop-b.invariant.1), omega (arith, f, count_next (under_at 3 B F) b, c.loop-b.invariant.2))

pub returns : goal.returns
returns c =
    let e : c.loop-b.b ≡ length c.args.figures.now = omega (arith, c.requires.0.1) in
    (rw c.from.ensures (rw e at c.loop-b.invariant.1), rw c.from-2.ensures (rw e at c.loop-b.invariant.2))
