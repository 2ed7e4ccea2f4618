use borrow.Author.Rules.{rules}
use native.Mathlib.Omega.{arith}
use native.Mathlib.Nat.{mul-add, mul-div-le, mul-le-mul_left, mul-zero, div-le_self}
use Prim.Native.Nat.{ℕ, ◌+◌, ◌-◌, ◌*◌, ◌/◌, ◌≤◌}
use mathlib.Core.Bool.{Bool}
use mathlib.Core.Path.{◌≡◌}
use lib.ListN.{length}
use Rattle.choice.specs.Pick.{count}
use Rattle.choice.proofs.Searches.{count_most}
use Rattle.packed.specs.Packed.{unlike_at, under_at}
use Rattle.packed.proofs.Laws.{count_split}
use Rattle.packed_figures.proofs.narrow.Goals as goal
use Rattle.packed_figures.proofs.narrow.Goals.{In-loop-k, After-loop-k}

pub loop-k-init : goal.loop-k-init
loop-k-init c = (search rules, search rules, rw (mul-zero), rw (mul-zero))

-- the numbers of a group and those before it
inside : (c : In-loop-k) → c.power-per.result * (c.loop-k.k + 128) ≤ length c.args.figures.now
inside c =
    let q = c.power-per.result in
    let m = length c.args.figures.now in
    let h : c.loop-k.k + 128 ≤ m / q = omega (arith, c.loop-k.invariant.0, c.loop-k-test.true) in
    omega (arith, mul-le-mul_left q h, mul-div-le m q)

pub group_at-c-requires : goal.group_at-c-requires
group_at-c-requires c =
    (c.requires.0, c.requires.1, c.power-per.ensures.0, omega arith, inside (goal.at.group_at-c-requires c).In-loop-k)

-- what a group adds
gained : (p : ℕ → Bool) (at n x : ℕ) → x ≡ count p at n → x ≤ n
gained p at n x e = rw e (count_most p at n)

pub overflow_add-unlike : goal.overflow_add-unlike
overflow_add-unlike c =
    omega (arith, gained _ _ _ _ c.group_at-c.ensures.0, inside (goal.at.overflow_add-unlike c).In-loop-k, mul-add c.power-per.result c.loop-k.k 128, c.loop-k.invariant.1.0, c.requires.1.0.1)

pub overflow_add-under : goal.overflow_add-under
overflow_add-under c =
    omega (arith, gained _ _ _ _ c.group_at-c.ensures.1, inside (goal.at.overflow_add-under c).In-loop-k, mul-add c.power-per.result c.loop-k.k 128, c.loop-k.invariant.1.1, c.requires.1.0.1)

pub overflow_add-k : goal.overflow_add-k
overflow_add-k c =
    omega (arith, c.loop-k-test.true, c.loop-k.invariant.0, div-le_self (length c.args.figures.now) c.power-per.result, c.requires.1.0.1)

pub loop-k-preserved : goal.loop-k-preserved
loop-k-preserved c =
    let a = c.args in
    let B = a.block.now in
    let F = a.figures.now in
    let q = c.power-per.result in
    let k = c.loop-k.k in
    let e : q * (k + 128) ≡ q * k + q * 128 = mul-add q k 128 in (
      omega (arith, c.loop-k-test.true, c.loop-k.invariant.0),
      (omega (arith, e, gained _ _ _ _ c.group_at-c.ensures.0, c.loop-k.invariant.1.0), omega (arith, e, gained _ _ _ _ c.group_at-c.ensures.1, c.loop-k.invariant.1.1)),
      rw e (omega (arith, count_split (unlike_at a.order B F) (q * k) (q * 128), c.group_at-c.ensures.0, c.loop-k.invariant.2)),
      rw e (omega (arith, count_split (under_at a.order B F) (q * k) (q * 128), c.group_at-c.ensures.1, c.loop-k.invariant.3)),
    )

-- those of all groups
so_far : (c : After-loop-k) → c.power-per.result * c.loop-k.k ≤ length c.args.figures.now
so_far c =
    let m = length c.args.figures.now in
    omega (arith, mul-le-mul_left c.power-per.result c.loop-k.invariant.0, mul-div-le m c.power-per.result)

pub overflow_mul-per : goal.overflow_mul-per
overflow_mul-per c = omega (arith, so_far (goal.at.overflow_mul-per c).After-loop-k, c.requires.1.0.1)

pub rest-requires : goal.rest-requires
rest-requires c = (c.requires.1.0, (so_far (goal.at.rest-requires c).After-loop-k, (c.loop-k.invariant.2, c.loop-k.invariant.3)))

pub returns : goal.returns
returns c = c.rest.ensures
