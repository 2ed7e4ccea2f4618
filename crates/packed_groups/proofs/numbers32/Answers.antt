use native.Mathlib.Omega.{arith}
use Prim.Native.Nat.{◌-◌, ◌≤◌}
use mathlib.Core.Path.{◌≡◌}
use lib.ListN.{length}
use Rattle.choice.proofs.Searches.{count_most}
use Rattle.packed.specs.Packed.{unlike_at, under_at}
use Rattle.packed.proofs.Laws.{count_split}
use Rattle.packed_groups.proofs.numbers32.Goals as goal
use Rattle.packed_groups.proofs.numbers32.Goals.{After-min-d, After-group32-c}

-- a group lies in the block
inside : (c : After-min-d) → c.min-d.result ≤ length c.args.figures.now - c.loop-k.k
inside c = omega (arith, c.min-d.ensures)

pub group32-c-requires : goal.group32-c-requires
group32-c-requires c =
    (c.requires, omega (arith, inside (goal.at.group32-c-requires c).After-min-d, c.loop-k-test.true))

-- what a group adds
gained : (c : After-group32-c) → (c.group32-c.result.unlike ≤ c.min-d.result) × (c.group32-c.result.under ≤ c.min-d.result)
gained c =
    let a = c.args in
    let B = a.block.now in
    let F = a.figures.now in
    let k = c.loop-k.k in
    let d = c.min-d.result in
    (rw c.group32-c.ensures.0 (count_most (unlike_at 5 B F) k d), rw c.group32-c.ensures.1 (count_most (under_at 5 B F) k d))

-- the sums stay small
pub overflow_add-unlike : goal.overflow_add-unlike
overflow_add-unlike c =
    omega (arith, (gained (goal.at.overflow_add-unlike c).After-group32-c).0, inside (goal.at.overflow_add-unlike c).After-min-d, c.loop-k.invariant.1.0, c.loop-k.invariant.0, c.requires.0.1)

pub overflow_add-under : goal.overflow_add-under
overflow_add-under c =
    omega (arith, (gained (goal.at.overflow_add-under c).After-group32-c).1, inside (goal.at.overflow_add-under c).After-min-d, c.loop-k.invariant.1.1, c.loop-k.invariant.0, c.requires.0.1)

pub overflow_add-k : goal.overflow_add-k
overflow_add-k c =
    omega (arith, inside (goal.at.overflow_add-k c).After-min-d, c.loop-k.invariant.0, c.requires.0.1)

pub loop-k-smaller : goal.loop-k-smaller
loop-k-smaller c = omega (arith, c.min-d.ensures, c.loop-k-test.true)

pub loop-k-preserved : goal.loop-k-preserved
loop-k-preserved c =
    let a = c.args in
    let B = a.block.now in
    let F = a.figures.now in
    let k = c.loop-k.k in
    let d = c.min-d.result in (
      omega (arith, inside (goal.at.loop-k-preserved c).After-min-d, c.loop-k.invariant.0),
      (omega (arith, (gained (goal.at.loop-k-preserved c).After-group32-c).0, c.loop-k.invariant.1.0), omega (arith, (gained (goal.at.loop-k-preserved c).After-group32-c).1, c.loop-k.invariant.1.1)),
      omega (arith, count_split (unlike_at 5 B F) k d, c.group32-c.ensures.0, c.loop-k.invariant.2),
      omega (arith, count_split (under_at 5 B F) k d, c.group32-c.ensures.1, c.loop-k.invariant.3),
    )

pub returns : goal.returns
returns c =
    let a = c.args in
    let e : c.loop-k.k ≡ length a.figures.now = omega arith in
    (rw e at c.loop-k.invariant.2, rw e at c.loop-k.invariant.3)
