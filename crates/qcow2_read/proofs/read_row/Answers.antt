use native.Mathlib.Omega.{arith}
use Prim.Native.Nat.{◌+◌, ◌-◌, ◌/◌, ◌^◌, ◌≤◌}
use mathlib.Core.Path.{◌≡◌, refl, ◌∙◌}
use lib.ListN.{length}
use Rattle.qcow2_spec.specs.Guest.{l1_entry}
use Rattle.qcow2_under.proofs.Laws.{under-bytes}
use Rattle.qcow2_guest.proofs.Ready.{reached}
use Rattle.qcow2_guest.proofs.Bytes.{row-absent, row_blank, row_inside, row_lent}
use Rattle.qcow2_read.proofs.read_row.Goals as goal
use Rattle.qcow2_read.proofs.read_row.Goals.{After-l1_entry-entry, After-power-c}

pub l1_entry-entry-requires : goal.l1_entry-entry-requires
l1_entry-entry-requires c =
    let o = c.requires.0 in
    (o, rw (c.quotient.ensures.0, o.is-cluster) (reached c.args.g c.args.image.now o c.args.x (omega (arith, c.requires.1.0, c.requires.1.1.0))))

-- the L1 entry that is loaded
entry : (c : After-l1_entry-entry) → c.l1_entry-entry.result ≡ l1_entry c.args.image.now c.args.g.root (c.args.x / 2 ^ c.args.g.bits)
entry c = rw (← c.quotient.ensures.0) c.l1_entry-entry.ensures

pub returns-then-entry-eq0 : goal.returns-then-entry-eq0
returns-then-entry-eq0 c =
    let a = c.args in
    let s = a.image.now in
    let n = length a.row.now in
    c.put_under.ensures
    ∙ under-bytes a.backing.now s a.x n _ c.requires.0.is-backed
    ∙ row-absent a.g s c.requires.0 a.x n c.requires.1.1.1 _ (entry (goal.at.returns-then-entry-eq0 c).After-l1_entry-entry) (omega arith) a.backing.now

-- the table that is lent lies in the image
inside : (c : After-power-c) → c.table_of-t.result + c.power-c.result ≤ length c.args.image.now
inside c =
    let a = c.args in
    rw c.power-c.ensures.0 (row_inside a.g a.image.now c.requires.0 a.x (length a.row.now) c.requires.1.1.1 _ (rw (← c.quotient.ensures.0) c.l1_entry-entry.ensures) _ c.table_of-t.ensures c.if-t-eq0.false)

pub overflow_add-t : goal.overflow_add-t
overflow_add-t c = omega (arith, inside (goal.at.overflow_add-t c).After-power-c, c.requires.0.short)

pub slice_bounds-read_below-end : goal.slice_bounds-read_below-end
slice_bounds-read_below-end c = omega (arith, inside (goal.at.slice_bounds-read_below-end c).After-power-c)

pub read_below-requires : goal.read_below-requires
read_below-requires c =
    let a = c.args in
    let t = c.table_of-t.result in
    let k = c.power-c.result in
    let d : t + k - t ≡ k = omega arith in
    (c.requires.0, (c.requires.1.0, row_lent a.g a.image.now c.requires.0 a.x (length a.row.now) c.requires.1.1.1 _ (entry (goal.at.read_below-requires c).After-l1_entry-entry) t c.table_of-t.ensures c.if-t-eq0.false _ (d ∙ c.power-c.ensures.0)))

pub returns-then-t-eq0 : goal.returns-then-t-eq0
returns-then-t-eq0 c =
    let a = c.args in
    c.zeros.ensures
    ∙ row_blank a.g a.image.now c.requires.0 a.x (length a.row.now) c.requires.1.1.1 _ (entry (goal.at.returns-then-t-eq0 c).After-l1_entry-entry) _ c.table_of-t.ensures c.if-entry-eq0.false c.if-t-eq0.true a.backing.now a.row.now refl

pub returns-else-t-eq0 : goal.returns-else-t-eq0
returns-else-t-eq0 c = c.read_below.ensures
