use Rattle.std.specs.Prelude.{if◌then◌else◌}
use native.Mathlib.Omega.{arith}
use native.Mathlib.Nat.{zero-add}
use Prim.Native.Nat.{ℕ, ◌+◌, ◌<◌}
use mathlib.Core.Path.{◌≡◌, refl, ◌∙◌}
use Rattle.choice.proofs.Searches.{count_same}
use Rattle.widths.proofs.Cells.{Small}
use Rattle.packed.specs.Packed.{unlike_at, under_at}
use Rattle.packed.proofs.Laws.{count_next}
use Rattle.packed_twos.specs.Twos.{twos, many}
use Rattle.packed_sixteen.proofs.Told.{unlike_told, zero-told}
use Rattle.packed_twos.proofs.Seen.{among_next, figure_one}
use Rattle.packed_sixteen.proofs.pass16.Invariants.{zero_at}
use Rattle.packed_sixteen.proofs.pass16.Goals as goal

pub loop-j-init : goal.loop-j-init
loop-j-init c = ((omega arith, omega arith), refl, refl, λ i h. absurd (omega arith))

pub turned16-t-requires : goal.turned16-t-requires
turned16-t-requires c = omega (arith, c.requires.0.fits)

pub loop-j-preserved : goal.loop-j-preserved
loop-j-preserved c =
    let B = c.args.block.now in
    let F = c.args.figures.now in
    let m = many F in
    let l = c.loop-j in
    let j = l.j in
    let sb : Small B = λ i. omega (arith, c.type_inv.block i) in
    let sf : Small F = λ i. omega (arith, c.type_inv.figures i) in
    let e : c.unlike16-unlike.result ≡ (if unlike_at 4 B (twos F m) j then 1 else 0) =
    rw (unlike_told B F sb sf m j (omega arith), ← c.turned16-t.ensures, ← c.turned16-f.ensures) c.unlike16-unlike.ensures.0 in
    let g : c.zero16-zeros.result ≡ (if zero_at B F j then 1 else 0) =
    rw (← c.turned16-t.ensures, ← c.turned16-f.ensures) c.zero16-zeros.ensures.0 in
    ((omega (arith, c.unlike16-unlike.ensures.1, l.invariant.0.0), omega (arith, c.zero16-zeros.ensures.1, l.invariant.0.1)), omega (arith, e, count_next (unlike_at 4 B (twos F m)) j, l.invariant.1), omega (arith, g, count_next (zero_at B F) j, l.invariant.2), among_next F l.seen j _ c.turned16-f.ensures l.invariant.3)

pub returns : goal.returns
returns c z o =
    let B = c.args.block.now in
    let F = c.args.figures.now in
    let m = many F in
    let sb : Small B = λ i. omega (arith, c.type_inv.block i) in
    let sf : Small F = λ i. omega (arith, c.type_inv.figures i) in
    let e : c.loop-j.j ≡ m = omega arith in
    let same : (x : ℕ) → x < m → zero_at B F (0 + x) ≡ under_at 4 B (twos F m) (0 + x) = λ x h. rw (zero-add x) (zero-told B F sb sf m x h (figure_one F sf c.loop-j.seen c.loop-j.j c.loop-j.invariant.3 z o x (omega arith)).1) in
    (rw e at c.loop-j.invariant.1, (rw e at c.loop-j.invariant.2) ∙ count_same (zero_at B F) (under_at 4 B (twos F m)) 0 0 m same)
