use Rattle.std.specs.Prelude.{if◌then◌else◌}
use native.Mathlib.Omega.{arith}
use mathlib.Core.Path.{◌≡◌}
use Rattle.widths.proofs.Cells.{Small}
use Rattle.packed.specs.Packed.{unlike_at, under_at}
use Rattle.packed.proofs.Laws.{count_next}
use Rattle.packed_twos.specs.Twos.{twos, many}
use Rattle.packed_sixteen.proofs.Told.{unlike_told, under-told}
use Rattle.packed_sixteen.proofs.each16.Goals as goal

pub turned16-t-requires : goal.turned16-t-requires
turned16-t-requires c = omega (arith, c.requires.0.fits)

pub loop-j-preserved : goal.loop-j-preserved
loop-j-preserved c =
    let B = c.args.block.now in
    let F = c.args.figures.now in
    let m = many F in
    let j = c.loop-j.j in
    let sb : Small B = λ i. omega (arith, c.type_inv.block i) in
    let sf : Small F = λ i. omega (arith, c.type_inv.figures i) in
    let e : c.unlike16-unlike.result ≡ (if unlike_at 4 B (twos F m) j then 1 else 0) =
    rw (unlike_told B F sb sf m j (omega arith), ← c.turned16-t.ensures, ← c.turned16-f.ensures) c.unlike16-unlike.ensures.0 in
    let g : c.under16-under.result ≡ (if under_at 4 B (twos F m) j then 1 else 0) =
    rw (under-told B F sb sf m j (omega arith) c.back.result c.back-in-loop-j.result (rw (← c.turned16-t.ensures) c.back.ensures) (rw (← c.turned16-f.ensures) c.back-in-loop-j.ensures)) c.under16-under.ensures.0 in
    ((omega (arith, c.unlike16-unlike.ensures.1, c.loop-j.invariant.0.0), omega (arith, c.under16-under.ensures.1, c.loop-j.invariant.0.1)), omega (arith, e, count_next (unlike_at 4 B (twos F m)) j, c.loop-j.invariant.1), omega (arith, g, count_next (under_at 4 B (twos F m)) j, c.loop-j.invariant.2))

pub returns : goal.returns
returns c =
    let e : c.loop-j.j ≡ many c.args.figures.now = omega arith in
    (rw e at c.loop-j.invariant.1, rw e at c.loop-j.invariant.2)
