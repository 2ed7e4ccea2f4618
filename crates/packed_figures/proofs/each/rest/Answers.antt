use Rattle.std.specs.Prelude.{if◌then◌else◌}
use borrow.Author.Rules.{rules}
use native.Mathlib.Omega.{arith}
use Prim.Native.Nat.{ℕ, ◌-◌, ◌*◌, ◌^◌}
use mathlib.Core.Path.{◌≡◌, ap}
use lib.ListN.{length}
use Rattle.choice.proofs.Searches.{count_most}
use Rattle.packed.specs.Packed.{packed, unlike_at, under_at}
use Rattle.packed.proofs.Laws.{count_next, lie_inside, lie_place}
use Rattle.packed_figures.proofs.each.rest.Goals as goal

pub loop-j-init : goal.loop-j-init
loop-j-init c =
    let a = c.args in
    let B = a.block.now in
    let F = a.figures.now in
    let p = c.requires.1 in (
      p.0,
      (rw p.1.0 (count_most (unlike_at a.order B F) 0 a.k), rw p.1.1 (count_most (under_at a.order B F) 0 a.k)),
      p.1.0,
      p.1.1,
    )

pub overflow_mul-width : goal.overflow_mul-width
overflow_mul-width c =
    let j = c.loop-j.j in
    let e : c.power-width.result * j ≡ 2 ^ c.args.order * j = ap (λ (x : ℕ). x * j) c.power-width.ensures.0 in
    omega (arith, lie_place c.requires.0.0 j c.loop-j.invariant.0)

pub load-x-requires : goal.load-x-requires
load-x-requires c =
    rw c.power-width.ensures.0 (lie_inside c.requires.0.0 c.loop-j.j (omega arith))

pub loop-j-preserved : goal.loop-j-preserved
unfolding unlike_at under_at packed
loop-j-preserved c =
    let a = c.args in
    let B = a.block.now in
    let F = a.figures.now in
    let j = c.loop-j.j in
    let r = rw c.power-width.ensures.0 at c.load-x.ensures in
    let e : c.from-unlike.result ≡ (if unlike_at a.order B F j then 1 else 0) = rw (← r, c.from-unlike.ensures, c.from-figure.ensures) (search rules) in
    let f : c.from-under.result ≡ (if under_at a.order B F j then 1 else 0) = rw (← r, c.from-under.ensures, c.from-figure.ensures) (search rules) in
    (search rules, search rules, omega (arith, e, count_next (unlike_at a.order B F) j, c.loop-j.invariant.2), omega (arith, f, count_next (under_at a.order B F) j, c.loop-j.invariant.3))

pub returns : goal.returns
returns c =
    let e : c.loop-j.j ≡ length c.args.figures.now = omega arith in
    (rw e at c.loop-j.invariant.2, rw e at c.loop-j.invariant.3)
