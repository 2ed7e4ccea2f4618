use native.Mathlib.Omega.{arith}
use Prim.Native.Nat.{◌+◌, ◌-◌, ◌*◌, ◌^◌, ◌≤◌}
use mathlib.Core.Path.{refl, ◌∙◌}
use Rattle.choice.proofs.Searches.{count_most}
use Rattle.packed.specs.Packed.{zero_at}
use Rattle.qcow2_counts.proofs.Blocks.{block_free, block_bits}
use Rattle.packed.proofs.Parts.{part_of, length_part}
use Rattle.qcow2_freecount.proofs.free_in.Goals as goal
use Rattle.qcow2_freecount.proofs.free_in.Goals.{After-power-c}

pub block_at-at-requires : goal.block_at-at-requires
block_at-at-requires c = (c.requires.0, c.requires.1.0)

-- the counts stand in the block
room : (c : After-power-c) → 2 ^ c.args.g.order * c.args.m ≤ 8 * 2 ^ c.args.g.bits
room c =
    block_bits c.requires.0 (2 ^ (c.args.g.bits + 3 - c.args.g.order)) refl c.args.m (rw c.requires.0.is-counts c.requires.1.1)

pub zeros_any-requires : goal.zeros_any-requires
zeros_any-requires c =
    let p = c.block_at-at in
    let a = c.args in
    let C = 2 ^ a.g.bits in
    let s = a.image.now in
    rw (part_of s p.result c.power-c.result C c.power-c.ensures.0, length_part s p.result C p.ensures.1) ((c.requires.0.narrow, room (goal.at.zeros_any-requires c).After-power-c), omega (arith, p.ensures.1, c.requires.0.short))

pub returns : goal.returns
returns c =
    let p = c.block_at-at in
    let a = c.args in
    let o = c.requires.0 in
    let s = a.image.now in
    let e = part_of s p.result c.power-c.result (2 ^ a.g.bits) c.power-c.ensures.0 in
    let z = c.zeros_any.ensures in
    (z ∙ block_free s _ a.g.order (2 ^ a.g.bits) a.b p.result a.m o.narrow o.is-width e p.ensures.0 (room (goal.at.returns c).After-power-c) c.requires.1.1, rw z (count_most (zero_at a.g.order _) 0 a.m))
