use borrow.Author.Rules.{rules}
use native.Mathlib.Omega.{arith}
use native.Mathlib.Nat.{zero-mul, zero-add, sub-zero}
use Prim.Native.Nat.{◌-◌, ◌*◌, ◌<◌}
use mathlib.Core.Path.{◌≡◌}
use Rattle.choice.specs.Pick.{count}
use Rattle.choice.proofs.Searches.{count_turns, count_none}
use Rattle.qcow2_spec.specs.Counts.{free_at, free}
use Rattle.qcow2_counts.proofs.Blocks.{at_block, per-is, some-per, next_block}
use Rattle.qcow2_freecount.proofs.free_clusters.Goals as goal
use Rattle.qcow2_freecount.proofs.free_clusters.Goals.{In-loop-k}

pub per_block-per-requires : goal.per_block-per-requires
per_block-per-requires c = let o = c.requires in (omega (arith, o.low, o.narrow), o.high)

pub loop-k-init : goal.loop-k-init
loop-k-init c = (search rules, rw zero-mul (omega arith), search rules, rw (sub-zero, zero-add))

-- the block that the loop has come to
here : (c : In-loop-k) → (c.loop-k.b < c.args.g.blocks) × (c.loop-k.k ≡ c.loop-k.b * c.per_block-per.result)
here c =
    at_block c.requires c.per_block-per.result c.per_block-per.ensures c.loop-k.b c.loop-k.k c.loop-k.invariant.1 c.loop-k-test.true

pub free_in-found-requires : goal.free_in-found-requires
free_in-found-requires c =
    let o = c.requires in
    (o, ((here (goal.at.free_in-found-requires c).In-loop-k).0, omega (arith, c.min-m.ensures, per-is o c.per_block-per.result c.per_block-per.ensures)))

pub overflow_add-b : goal.overflow_add-b
overflow_add-b c = omega (arith, (here (goal.at.overflow_add-b c).In-loop-k).0, c.requires.blocks-read)

pub loop-k-smaller : goal.loop-k-smaller
loop-k-smaller c =
    omega (arith, c.min-m.ensures, some-per c.requires c.per_block-per.result c.per_block-per.ensures)

pub loop-k-preserved : goal.loop-k-preserved
loop-k-preserved c =
    let a = c.args in
    let s = a.image.now in
    let k = c.loop-k.k in
    let m = c.min-m.result in
    let e : c.free_in-found.result ≡ count (free_at s) k m = rw ((here (goal.at.loop-k-preserved c).In-loop-k).1, per-is c.requires c.per_block-per.result c.per_block-per.ensures) c.free_in-found.ensures.0 in
    let f = count_turns (free_at s) k m a.g.clusters (omega (arith, c.min-m.ensures)) in (
      omega (arith, c.min-m.ensures),
      next_block c.loop-k.b _ _ k m c.loop-k.invariant.1 c.loop-k-test.true c.min-m.ensures,
      omega (arith, c.free_in-found.ensures.1),
      omega (arith, e, f, c.loop-k.invariant.3),
    )

pub returns : goal.returns
unfolding free
returns c =
    let a = c.args in
    let s = a.image.now in
    rw (← c.requires.is-clusters) (omega (arith, count_none (free_at s) c.loop-k.k a.g.clusters c.loop-k-test.false, c.loop-k.invariant.3))
