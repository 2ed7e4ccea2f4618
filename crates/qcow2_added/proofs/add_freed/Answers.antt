-- `qcow2_added::add_freed` meets its contract. Assumes nothing.
use native.Mathlib.Omega.{arith}
use mathlib.Core.Path.{sym}
use lib.Seq.{length-take-le}
use Rattle.qcow2_batches.specs.Rows.{rows_in}
use Rattle.qcow2_added.proofs.Own.{rows-freed}
use Rattle.qcow2_added.proofs.Parts.{lent_in, added-part}
use Rattle.qcow2_added.proofs.add_freed.Goals as goal

pub put_freed-requires : goal.put_freed-requires
put_freed-requires c = c.requires.0

pub slice_bounds-freed_phase-end-2 : goal.slice_bounds-freed_phase-end-2
slice_bounds-freed_phase-end-2 c = sym (length-take-le _ c.args.rows.now (omega (arith, c.past-a.ensures)))

pub returns : goal.returns
returns c =
    let a = c.args in
    let l = a.image.now in
    let o = a.rows.now in
    let e = c.past-a.ensures in
    added-part a.k o _ e l _ _ _ _ (rows-freed l (rows_in 1 a.k o) a.freed c.requires.1) (rw (c.freed_phase-e.ensures, lent_in a.k o _ e 1) at c.put_freed.ensures)
