use native.Mathlib.Omega.{arith}
use Prim.Native.Nat.{◌+◌, ◌*◌, ◌^◌, ◌≤◌}
use mathlib.Core.Path.{refl}
use lib.ListN.{length}
use Rattle.packed.proofs.Parts.{part_of, length_part}
use Rattle.packed_twos.specs.Twos.{figures_in}
use Rattle.packed_twos.proofs.Laws.{many_lent, figures_lent}
use Rattle.qcow2_figures.proofs.Compares.{length-figures, judging_whole}
use Rattle.qcow2_figures.proofs.compared.Goals as goal
use Rattle.qcow2_figures.proofs.compared.Goals.{After-bytes_of}

-- the counts' bytes, as many as are lent
room : (c : After-bytes_of) → c.args.at + c.bytes_of.result ≤ length c.args.image.now
room c = omega (arith, c.bytes_of.ensures, c.requires.0.0.inside)

held : (c : After-bytes_of) → 2 ^ c.args.order * c.args.m ≤ 8 * c.bytes_of.result
held c = omega (arith, c.bytes_of.ensures)

pub bytes_of-requires : goal.bytes_of-requires
bytes_of-requires c = let p = c.requires in (p.0.0.narrow, p.1)

pub overflow_add-end : goal.overflow_add-end
overflow_add-end c = omega (arith, room (goal.at.overflow_add-end c).After-bytes_of, c.requires.0.0.short)

pub slice_bounds-compare-end : goal.slice_bounds-compare-end
slice_bounds-compare-end c = room (goal.at.slice_bounds-compare-end c).After-bytes_of

pub slice_bounds-compare-end-2 : goal.slice_bounds-compare-end-2
slice_bounds-compare-end-2 c = omega (arith, c.requires.0.1)

pub compare-requires : goal.compare-requires
compare-requires c =
    let r = c.bytes_of.result in
    let a = c.args in
    let p = c.requires in
    let s = a.image.now in
    rw (part_of s a.at r r refl, length_part s a.at r (room (goal.at.compare-requires c).After-bytes_of), many_lent a.scratch.now a.base a.m p.0.1)
    (record { few = p.0.0.narrow; short = omega (arith, room (goal.at.compare-requires c).After-bytes_of, p.0.0.short); fits = held (goal.at.compare-requires c).After-bytes_of }, p.1)

pub returns : goal.returns
returns c z d j =
    let r = c.bytes_of.result in
    let a = c.args in
    let s = a.image.now in
    let f = a.scratch.now in
    let p = c.requires.0 in
    let v = rw (many_lent f a.base a.m p.1) at c.compare.ensures in
    judging_whole a.order s (figures_in f) _ _ a.at a.base a.m r p.0 (held (goal.at.returns c).After-bytes_of) (part_of s a.at r r refl)
    (λ i l. figures_lent f a.base a.m i p.1 l)
    d c.compare.result.unlike c.compare.result.under (omega (arith, p.1, length-figures f)) j v.0 v.1 z
