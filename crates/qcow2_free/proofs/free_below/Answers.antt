use native.Mathlib.Omega.{arith}
use native.Mathlib.Nat.{mul-le-mul_left, div-add-mod'}
use Prim.Native.Nat.{ℕ, ◌+◌, ◌-◌, ◌*◌, ◌^◌, ◌≤◌}
use mathlib.Core.Path.{◌≡◌, sym, ◌∙◌}
use Rattle.choice.specs.Pick.{first}
use Rattle.choice.proofs.Searches.{first-none}
use Rattle.qcow2_spec.specs.Counts.{free_at}
use Rattle.qcow2_counts.specs.Blocks.{per_of}
use Rattle.qcow2_counts.proofs.Sizes.{sizes, block_in}
use Rattle.qcow2_free.specs.Zeros.{zero_in}
use Rattle.qcow2_free.proofs.Counts.{Looked, run-free, block_inside, block_lie, block_found}
use Rattle.qcow2_free.proofs.free_below.Goals as goal
use Rattle.qcow2_free.proofs.free_below.Goals.{After-bytes_of-c, After-near_at}

pub returns-then-start-up : goal.returns-then-start-up
returns-then-start-up c =
    let a = c.args in
    let e = first-none (free_at a.image.now) a.start a.up (omega (arith, c.if-start-up.true)) in
    sym (e ∙ c.if-start-up.true)

pub block_at-at-requires : goal.block_at-at-requires
block_at-at-requires c =
    let p = c.requires.0 in
    (p.0, rw c.block_of.ensures (block_in c.args.g c.args.image.now p.0 c.args.start p.1))

looked : (c : After-bytes_of-c) → Looked c.args.g c.args.image.now c.block_of.result c.block_at-at.result c.bytes_of-c.result
looked c = let p = c.block_at-at.ensures in record { accepted = c.requires.0.0; is_at = p.0; is_c = c.bytes_of-c.ensures.0; inside = p.1 }

-- the run stands in the block
within : (c : After-bytes_of-c) → c.index_of-j.result + (c.args.up - c.args.start) ≤ per_of c.args.g
within c = rw c.index_of-j.ensures.0 c.requires.1.1

fits : (c : After-bytes_of-c) → 2 ^ c.args.g.order * (c.index_of-j.result + (c.args.up - c.args.start)) ≤ 8 * 2 ^ c.args.g.bits
fits c =
    let k = sizes c.args.g c.args.image.now c.requires.0.0 in
    omega (arith, k.pair, mul-le-mul_left (2 ^ c.args.g.order) (within c))

pub overflow_add-j : goal.overflow_add-j
overflow_add-j c =
    omega (arith, (sizes c.args.g c.args.image.now c.requires.0.0).small, within (goal.at.overflow_add-j c).After-bytes_of-c)

pub near_at-requires : goal.near_at-requires
near_at-requires c = (block_inside (looked (goal.at.near_at-requires c).After-bytes_of-c), (block_lie (looked (goal.at.near_at-requires c).After-bytes_of-c) (c.index_of-j.result + (c.args.up - c.args.start)) (fits (goal.at.near_at-requires c).After-bytes_of-c), omega arith))

-- the count that was found, in the block
found : (c : After-near_at) → (c.near_at.result ≡ first (zero_in c.args.image.now c.block_of.result) c.index_of-j.result (c.args.up - c.args.start)) × ((c.index_of-j.result ≤ c.near_at.result) × (c.near_at.result ≤ c.index_of-j.result + (c.args.up - c.args.start)))
found c =
    let j : ℕ = c.index_of-j.result in
    let m : ℕ = c.args.up - c.args.start in
    let d : j + m - j ≡ m = omega arith in
    let s = (goal.at.overflow_sub-result c).After-bytes_of-c in
    rw d at (block_found (looked s) (j + m) (fits s) j c.near_at.result (omega arith) c.near_at.ensures)

pub overflow_sub-result : goal.overflow_sub-result
overflow_sub-result c = (found (goal.at.overflow_sub-result c).After-near_at).1.0

pub overflow_add-result : goal.overflow_add-result
overflow_add-result c =
    let k = sizes c.args.g c.args.image.now c.requires.0.0 in
    omega (arith, k.small, k.few, within (goal.at.overflow_add-result c).After-bytes_of-c, c.requires.0.1, (found (goal.at.overflow_add-result c).After-near_at).1)

pub returns : goal.returns
returns c =
    let a = c.args in
    let l = a.image.now in
    let k = sizes a.g l c.requires.0.0 in
    let H : ℕ = per_of a.g in
    let j : ℕ = c.index_of-j.result in
    let b : ℕ = c.block_of.result in
    let i : a.start ≡ b * H + j = rw (c.block_of.ensures, c.index_of-j.ensures.0) (sym (div-add-mod' a.start H)) in
    omega (arith, (found (goal.at.returns c).After-near_at).1, run-free l b H j (a.up - a.start) a.start c.near_at.result k.per (within (goal.at.returns c).After-bytes_of-c) i (found (goal.at.returns c).After-near_at).0)
