use native.Mathlib.Omega.{arith}
use mathlib.Core.Path.{◌≡◌, refl, sym, ◌∙◌}
use Prim.Native.Nat.{◌-◌}
use lib.ListN.{take, drop}
use Rattle.choice.specs.Pick.{first}
use Rattle.choice.proofs.Searches.{first-none}
use Rattle.packed.specs.Packed.{zero_at}
use Rattle.packed.proofs.Parts.{part_of, length_part}
use Rattle.qcow2_free.proofs.Counts.{Looked, block_inside, block_lie, block_found}
use Rattle.packed_search.proofs.Groups.{eighth_whole}
use Rattle.qcow2_free.proofs.free_in.Goals as goal
use Rattle.qcow2_free.proofs.free_in.Goals.{After-bytes_of-c, After-far_any-k}

pub block_at-at-requires : goal.block_at-at-requires
block_at-at-requires c = c.requires.0

looked : (c : After-bytes_of-c) → Looked c.args.g c.args.image.now c.args.b c.block_at-at.result c.bytes_of-c.result
looked c = let p = c.block_at-at.ensures in record { accepted = c.requires.0.0; is_at = p.0; is_c = c.bytes_of-c.ensures.0; inside = p.1 }

pub far_any-k-requires : goal.far_any-k-requires
far_any-k-requires c =
    let a = c.args in
    let l = a.image.now in
    let at = c.block_at-at.result in
    let n = c.bytes_of-c.result in
    let k = looked (goal.at.far_any-k-requires c).After-bytes_of-c in
    let v = c.requires.1 in
    (rw (part_of l at n n refl, length_part l at n (block_inside k)) (block_lie k a.end v.1, v.0.0), eighth_whole a.g.order a.j v.0.1)

pub near_at-requires : goal.near_at-requires
near_at-requires c =
    let k = looked (goal.at.near_at-requires c).After-bytes_of-c in
    (block_inside k, (block_lie k c.args.end c.requires.1.1, c.far_any-k.ensures.0))

-- what is passed over
passed : (c : After-far_any-k)
    → first (zero_at c.args.g.order (take c.bytes_of-c.result (drop c.block_at-at.result c.args.image.now))) c.args.j (c.args.end - c.args.j)
    ≡ first (zero_at c.args.g.order (take c.bytes_of-c.result (drop c.block_at-at.result c.args.image.now))) c.far_any-k.result (c.args.end - c.far_any-k.result)
passed c = let n = c.bytes_of-c.result in rw (part_of c.args.image.now c.block_at-at.result n n refl) at c.far_any-k.ensures.1

pub returns-then-k-end : goal.returns-then-k-end
returns-then-k-end c =
    let a = c.args in
    block_found (looked (goal.at.returns-then-k-end c).After-bytes_of-c) a.end c.requires.1.1 a.j c.near_at.result c.requires.1.0.0 (c.near_at.ensures ∙ sym (passed (goal.at.returns-then-k-end c).After-far_any-k))

pub returns : goal.returns
returns c =
    let a = c.args in
    let f = c.far_any-k in
    let e = first-none (zero_at a.g.order (take c.bytes_of-c.result (drop c.block_at-at.result a.image.now))) f.result a.end (omega (arith, c.if-k-end.false)) in
    block_found (looked (goal.at.returns c).After-bytes_of-c) a.end c.requires.1.1 a.j f.result c.requires.1.0.0 (sym (passed (goal.at.returns c).After-far_any-k ∙ e))
