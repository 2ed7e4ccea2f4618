use native.Mathlib.Omega.{arith}
use Prim.Native.Nat.{◌+◌, ◌^◌, ◌/◌, ◌≤◌, ◌<◌}
use mathlib.Core.Path.{◌≡◌, ap, ◌∙◌}
use lib.ListN.{length}
use Rattle.qcow2_spec.specs.Header.{per_table}
use Rattle.qcow2_spec.specs.Entries.{place}
use Rattle.qcow2_refs.specs.Walks.{below_at, row_at}
use Rattle.qcow2_spec.proofs.Places.{place_inside, l1_place}
use Rattle.packed.proofs.Parts.{part_of, length_part}
use Rattle.qcow2_fails.proofs.Failing.{below-some}
use Rattle.qcow2_fails.proofs.below_at.Goals as goal
use Rattle.qcow2_fails.proofs.below_at.Goals.{After-place_of-p}

pub row_at-requires : goal.row_at-requires
row_at-requires c = c.requires.0

-- the table is inside the image, and the entry inside the table
inside : (c : After-place_of-p) →
    (c.place_of-p.result ≡ place (row_at c.args.image.now c.args.g.root c.args.i))
    × ((c.place_of-p.result + 2 ^ c.args.g.bits ≤ length c.args.image.now)
    × (c.args.j < 2 ^ c.args.g.bits / 8))
unfolding per_table
inside c =
    let a = c.args in
    let o = c.requires.0.0 in
    let s = a.image.now in
    let x = row_at s a.g.root a.i in
    let e : c.place_of-p.result ≡ place x = c.place_of-p.ensures.0 ∙ ap place c.row_at.ensures in
    let w = below-some s a.g.root a.i a.j c.requires.1.1 in
    (e, (rw e (place_inside (2 ^ a.g.bits) (length s) x (l1_place _ _ _ c.requires.1.0) w.0), rw o.is-cluster w.1))

pub slice_bounds-load64-end : goal.slice_bounds-load64-end
slice_bounds-load64-end c = omega (arith, (inside (goal.at.slice_bounds-load64-end c).After-place_of-p).1.0, c.power-c.ensures.0)

pub overflow_mul-j : goal.overflow_mul-j
overflow_mul-j c = omega (arith, (inside (goal.at.overflow_mul-j c).After-place_of-p).1.1, (inside (goal.at.overflow_mul-j c).After-place_of-p).1.0)

pub load64-requires : goal.load64-requires
load64-requires c =
    let C = 2 ^ c.args.g.bits in
    let s = c.args.image.now in
    let at = c.place_of-p.result in
    let i = inside (goal.at.load64-requires c).After-place_of-p in
    rw (part_of s at c.power-c.result C c.power-c.ensures.0, length_part s at C i.1.0) (omega (arith, i.1.1))

pub returns : goal.returns
unfolding below_at
returns c =
    let o = c.requires.0.0 in
    let e = part_of c.args.image.now c.place_of-p.result c.power-c.result (2 ^ c.args.g.bits) c.power-c.ensures.0 in
    rw (e, (inside (goal.at.returns c).After-place_of-p).0, o.is-cluster) at c.load64.ensures
