use Rattle.std.specs.Prelude.{if◌then◌else◌}
use native.Mathlib.Omega.{arith}
use Prim.Native.Nat.{ℕ, ◌*◌, ◌^◌}
use mathlib.Core.Path.{◌≡◌, ap, sym, ◌∙◌}
use lib.ListN.{get_or}
use Rattle.packed.specs.Packed.{packed, unlike_at, under_at}
use Rattle.packed.proofs.Laws.{count_next, lie_inside, lie_place}
use Rattle.packed_twos.specs.Twos.{twos, many}
use Rattle.packed_twos.proofs.Laws.{get_or-twos}
use Rattle.packed_twos.proofs.each.numbers.Goals as goal

pub overflow_mul-width : goal.overflow_mul-width
overflow_mul-width c =
    let j = c.loop-j.j in
    let e : c.power-width.result * j ≡ 2 ^ c.args.order * j = ap (λ (x : ℕ). x * j) c.power-width.ensures.0 in
    omega (arith, lie_place c.requires.0 j (omega arith))

pub load-x-requires : goal.load-x-requires
load-x-requires c =
    rw c.power-width.ensures.0 (lie_inside c.requires.0 c.loop-j.j (omega arith))

pub load16-requires : goal.load16-requires
load16-requires c = omega arith

pub loop-j-preserved : goal.loop-j-preserved
unfolding unlike_at under_at packed
loop-j-preserved c =
    let a = c.args in
    let B = a.block.now in
    let F = twos a.figures.now (many a.figures.now) in
    let j = c.loop-j.j in
    let r = rw c.power-width.ensures.0 at c.load-x.ensures in
    let y : c.from-f.result ≡ get_or F j 0 = c.from-f.ensures ∙ c.load16.ensures ∙ sym (get_or-twos a.figures.now (many a.figures.now) j (omega arith)) in
    let e : c.one_unlike-unlike.result ≡ (if unlike_at a.order B F j then 1 else 0) = rw (← r, ← y) c.one_unlike-unlike.ensures.0 in
    let f : c.one_under-under.result ≡ (if under_at a.order B F j then 1 else 0) = rw (← r, ← y) c.one_under-under.ensures.0 in
    ((omega (arith, c.one_unlike-unlike.ensures.1, c.loop-j.invariant.0.0), omega (arith, c.one_under-under.ensures.1, c.loop-j.invariant.0.1)), omega (arith, e, count_next (unlike_at a.order B F) j, c.loop-j.invariant.1), omega (arith, f, count_next (under_at a.order B F) j, c.loop-j.invariant.2))

pub returns : goal.returns
returns c =
    let e : c.loop-j.j ≡ many c.args.figures.now = omega arith in
    (rw e at c.loop-j.invariant.1, rw e at c.loop-j.invariant.2)
