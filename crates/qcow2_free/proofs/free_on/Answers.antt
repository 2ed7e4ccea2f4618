use native.Mathlib.Omega.{arith}
use native.Mathlib.Nat.{div-add-mod'}
use Prim.Native.Nat.{ℕ, ◌+◌, ◌-◌, ◌*◌, ◌%◌, ◌<◌, min}
use mathlib.Core.Path.{◌≡◌, refl, sym, ap, ◌∙◌}
use Rattle.choice.specs.Pick.{first}
use Rattle.choice.proofs.Searches.{first-none}
use Rattle.qcow2_spec.specs.Counts.{free_at}
use Rattle.qcow2_counts.specs.Blocks.{per_of}
use Rattle.qcow2_counts.proofs.Sizes.{sizes}
use Rattle.qcow2_counts.proofs.Blocks.{at_block, block_bits, some-per, next_block}
use Rattle.qcow2_free.proofs.Counts.{run-free, left_hit, left_missed, index_eighth}
use Rattle.qcow2_free.proofs.free_on.Goals as goal
use Rattle.qcow2_free.proofs.free_on.Goals.{After-free_in-f, After-index_of-j, After-min-end}

-- block b's first cluster is the first of those that are left, and the search goes on at its index j
pub per_block-per-requires : goal.per_block-per-requires
per_block-per-requires c = let o = c.requires.0 in (omega (arith, o.low, o.narrow), o.high)

pub block_of-b-requires : goal.block_of-b-requires
block_of-b-requires c = let o = c.requires.0 in (omega (arith, o.low, o.narrow), o.high)

pub index_of-j-requires : goal.index_of-j-requires
index_of-j-requires c = let o = c.requires.0 in (omega (arith, o.low, o.narrow), o.high)

-- the first cluster of start's block
first-is : (c : After-index_of-j) → c.args.start ≡ c.block_of-b.result * c.per_block-per.result + c.index_of-j.result
first-is c = rw (c.block_of-b.ensures, c.per_block-per.ensures, c.index_of-j.ensures.0) (sym (div-add-mod' c.args.start (per_of c.args.g)))

pub overflow_sub-left : goal.overflow_sub-left
overflow_sub-left c = omega (arith, first-is (goal.at.overflow_sub-left c).After-index_of-j)

pub overflow_sub-left-2 : goal.overflow_sub-left-2
overflow_sub-left-2 c = omega (arith, c.requires.1.0)

pub loop-j-init : goal.loop-j-init
loop-j-init c =
    let a = c.args in
    let N : ℕ = a.g.clusters in
    let j : ℕ = c.index_of-j.result in
    let f = first-is (goal.at.loop-j-init c).After-index_of-j in
    let h = c.requires.1.0 in
    let i : N - (N - (a.start - j)) + j ≡ a.start = omega (arith, f, h) in
    let e : j < N - (a.start - j) → j % 8 ≡ 0 =
    λ l. rw c.index_of-j.ensures.0 (index_eighth (a.g.bits + 3 - a.g.order) (omega (arith, c.requires.0.low, c.requires.0.narrow)) a.start ∙ c.requires.1.1 (omega (arith, i, h, f, l))) in
    (((omega arith, omega (arith, f, h)), (omega (arith, f, h), (rw c.per_block-per.ensures c.index_of-j.ensures.1, e))), rw i refl)

-- block b, and the counts of it that are left
block_here : (c : After-min-end) → (c.loop-j.b < c.args.g.blocks) × (c.args.g.clusters - c.loop-j.left ≡ c.loop-j.b * c.per_block-per.result)
block_here c =
    let t = c.loop-j in
    at_block c.requires.0 c.per_block-per.result c.per_block-per.ensures t.b (c.args.g.clusters - t.left) t.invariant.0.0.1 (omega (arith, t.invariant.0.0.0, c.loop-j-test.true))

pub free_in-f-requires : goal.free_in-f-requires
free_in-f-requires c =
    let t = c.loop-j in
    let l = c.loop-j-test.true in
    ((c.requires.0, (block_here (goal.at.free_in-f-requires c).After-min-end).0), ((omega (arith, c.min-end.ensures, t.invariant.0.1.1.0, l), t.invariant.0.1.1.1 l), block_bits c.requires.0 c.per_block-per.result c.per_block-per.ensures c.min-end.result (omega (arith, c.min-end.ensures))))

-- the clusters that were searched
searched : (c : After-free_in-f) → c.args.g.clusters - c.loop-j.left ≡ c.loop-j.b * c.per_block-per.result
    → first (free_at c.args.image.now) (c.args.g.clusters - c.loop-j.left + c.loop-j.j) (c.min-end.result - c.loop-j.j) + c.loop-j.j ≡ c.args.g.clusters - c.loop-j.left + c.loop-j.j + c.free_in-f.result
searched c h =
    let t = c.loop-j in
    let H : ℕ = c.per_block-per.result in
    let k = sizes c.args.g c.args.image.now c.requires.0 in
    let e = c.min-end.ensures in
    run-free c.args.image.now t.b H t.j (c.min-end.result - t.j) (c.args.g.clusters - t.left + t.j) c.free_in-f.result (k.per ∙ sym c.per_block-per.ensures) (omega (arith, e, t.invariant.0.1.1.0, c.free_in-f.ensures.1)) (ap (λ (x : ℕ). x + t.j) h) c.free_in-f.ensures.0

pub returns-then-f-end : goal.returns-then-f-end
returns-then-f-end c =
    let t = c.loop-j in
    let f = c.free_in-f in
    let e = c.min-end.ensures in
    left_hit (free_at c.args.image.now) c.args.g.clusters t.left t.j c.min-end.result f.result t.invariant.0.0.0 (omega (arith, f.ensures.1)) (omega (arith, e)) (searched (goal.at.returns-then-f-end c).After-free_in-f (block_here (goal.at.returns-then-f-end c).After-min-end).1) (omega (arith, c.if-f-end.true, f.ensures.1))
    ∙ sym t.invariant.1

pub overflow_add-b : goal.overflow_add-b
overflow_add-b c = let o = c.requires.0 in omega (arith, (block_here (goal.at.overflow_add-b c).After-min-end).0, o.blocks-read, o.short)

pub loop-j-smaller : goal.loop-j-smaller
loop-j-smaller c = omega (arith, c.min-end.ensures, some-per c.requires.0 c.per_block-per.result c.per_block-per.ensures, c.loop-j-test.true)

pub loop-j-preserved : goal.loop-j-preserved
loop-j-preserved c =
    let t = c.loop-j in
    let H : ℕ = c.per_block-per.result in
    let N : ℕ = c.args.g.clusters in
    let f = c.free_in-f in
    let end : ℕ = c.min-end.result in
    let e : end ≡ min H t.left = c.min-end.ensures in
    let l = t.invariant.0.0.0 in
    let d : N - (N - t.left) ≡ t.left = omega arith in
    let n = next_block t.b H N (N - t.left) end t.invariant.0.0.1 (omega (arith, l, c.loop-j-test.true)) (rw d e) in
    let m = left_missed (free_at c.args.image.now) N t.left t.j end f.result l (omega (arith, f.ensures.1)) (omega (arith, e)) (searched (goal.at.loop-j-preserved c).After-free_in-f (block_here (goal.at.loop-j-preserved c).After-min-end).1) (omega (arith, c.if-f-end.false)) in
    (((omega arith, omega (arith, n, l, e)), (omega arith, (some-per c.requires.0 H c.per_block-per.ensures, λ h. refl))), t.invariant.1 ∙ m)

pub returns : goal.returns
returns c =
    let t = c.loop-j in
    let N : ℕ = c.args.g.clusters in
    let e : N - t.left + t.j ≡ N = omega (arith, t.invariant.0.0.0, t.invariant.0.1.0, c.loop-j-test.false) in
    sym (t.invariant.1 ∙ rw e (first-none (free_at c.args.image.now) N N (omega arith)))
