use native.Mathlib.Nat.{zero-add}
use native.Mathlib.Omega.{arith}
use Prim.Native.Nat.{suc, ◌+◌, ◌<◌}
use mathlib.Core.Path.{◌≡◌, ◌∙◌}
use lib.ListN.{length}
use Rattle.qcow2_spec.specs.Header.{snapshots}
use Rattle.qcow2_spec.proofs.Facts.{facts, root-count}
use Rattle.qcow2_portions.specs.Rows.{ahead}
use Rattle.qcow2_portions.proofs.Rows.{length-ahead_out}
use Rattle.qcow2_ahead.proofs.Sums.{ahead-most, ahead_turn}
use Rattle.qcow2_ahead.proofs.count_from.Goals as goal
use Rattle.qcow2_ahead.proofs.count_from.Goals.{After-size_at-n, In-loop-j}

pub loop-j-init : goal.loop-j-init
loop-j-init c = ((c.requires.0.1, c.requires.1), zero-add _)

-- another snapshot
more : (c : In-loop-j) → c.loop-j.j < snapshots c.args.image.now
more c = omega (arith, c.requires.0.0.is-snapshots)

pub size_at-n-requires : goal.size_at-n-requires
size_at-n-requires c = ((c.requires.0.0, more (goal.at.size_at-n-requires c).In-loop-j), c.loop-j.invariant.0.1)

-- what is left is its table's entries and what is left after it
left : (c : After-size_at-n) → c.loop-j.n + c.size_at-n.result + length (ahead c.args.image.now (suc (c.loop-j.j + 1)) 0) ≡ length (ahead c.args.image.now (suc c.args.k) 0)
left c =
    let o = c.requires.0.0 in
    ahead_turn c.args.image.now (facts _ o.accepted) c.loop-j.j c.loop-j.n c.size_at-n.result (omega (arith, o.is-snapshots)) c.size_at-n.ensures ∙ c.loop-j.invariant.1

pub overflow_add-n : goal.overflow_add-n
overflow_add-n c =
    let p = c.requires.0 in
    omega (arith, left (goal.at.overflow_add-n c).After-size_at-n, ahead-most _ (facts _ p.0.accepted) _ p.1)

pub next_place-at-requires : goal.next_place-at-requires
next_place-at-requires c = ((c.requires.0.0, more (goal.at.next_place-at-requires c).In-loop-j), c.loop-j.invariant.0.1)

pub loop-j-preserved : goal.loop-j-preserved
loop-j-preserved c =
    let e : suc c.loop-j.j ≡ c.loop-j.j + 1 = omega arith in
    ((omega (arith, more (goal.at.loop-j-preserved c).In-loop-j), rw e at c.next_place-at.ensures), left (goal.at.loop-j-preserved c).After-size_at-n)

pub returns : goal.returns
returns c =
    let p = c.requires.0 in
    let s = c.args.image.now in
    let f = facts s p.0.accepted in
    let z : length (ahead s (suc c.loop-j.j) 0) ≡ 0 = length-ahead_out s (suc c.loop-j.j) 0 (omega (arith, root-count s f, p.0.is-snapshots)) in
    (omega (arith, c.loop-j.invariant.1), omega (arith, c.loop-j.invariant.1, ahead-most s f c.args.k p.1))
