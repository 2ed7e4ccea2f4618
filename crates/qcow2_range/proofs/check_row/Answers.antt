use native.Mathlib.Omega.{arith}
use Prim.Native.Nat.{◌+◌, ◌-◌, ◌^◌}
use Rattle.std.specs.Prelude.{Err}
use mathlib.Core.Path.{◌≡◌, sym, ap, ◌∙◌}
use Rattle.qcow2_spec.specs.Causes.{answer}
use Rattle.qcow2_spec.specs.Entries.{place}
use Rattle.qcow2_guest.proofs.Steps.{table_in}
use Rattle.qcow2_range.proofs.Rows.{table-asks, row-bad, row-none, row-some}
use Rattle.qcow2_range.proofs.check_row.Goals as goal

pub l1_entry-e-requires : goal.l1_entry-e-requires
l1_entry-e-requires c = c.requires.0

pub returns-then-t-eq0 : goal.returns-then-t-eq0
returns-then-t-eq0 c =
    ap answer (row-none c.args.g c.args.image.now c.requires.0.0 c.args.guest c.args.k c.requires.1.1 _ c.l1_entry-e.ensures
    (sym c.good_l1.ensures ∙ c.if-good_l1.true) (sym c.place_of-t.ensures.0 ∙ c.if-t-eq0.true))

pub slice_bounds-check_table-end : goal.slice_bounds-check_table-end
slice_bounds-check_table-end c =
    let a = c.args in
    let o = c.requires.0.0 in
    omega (arith, c.place_of-t.ensures.0, c.power-c.ensures.0, o.is-cluster, table_in a.g a.image.now o a.guest _ c.l1_entry-e.ensures (sym c.good_l1.ensures ∙ c.if-good_l1.true))

pub check_table-requires : goal.check_table-requires
check_table-requires c =
    let a = c.args in
    let o = c.requires.0.0 in
    let t = c.place_of-t.result in
    let k = c.power-c.result in
    let d : t + k - t ≡ k = omega arith in
    let p : t + k - t ≡ 2 ^ a.g.bits = d ∙ c.power-c.ensures.0 in
    let i = table_in a.g a.image.now o a.guest _ c.l1_entry-e.ensures (sym c.good_l1.ensures ∙ c.if-good_l1.true) in
    rw p (table-asks a.g a.image.now o a.guest a.k c.requires.1.1 _ c.l1_entry-e.ensures t c.rest-i.result (rw c.place_of-t.ensures.0 i) c.rest-i.ensures.0)

pub returns-then-good_l1 : goal.returns-then-good_l1
returns-then-good_l1 c =
    let a = c.args in
    let t = c.place_of-t.result in
    let k = c.power-c.result in
    let d : t + k - t ≡ k = omega arith in
    let p : t + k - t ≡ 2 ^ a.g.bits = d ∙ c.power-c.ensures.0 in
    let j = c.rest-i.result in
    let m : j + a.k - j ≡ a.k = omega arith in
    let v : t ≡ place c.l1_entry-e.result = c.place_of-t.ensures.0 in
    rw (p, m, v, c.rest-i.ensures.0) at c.check_table.ensures
    ∙ ap answer (row-some a.g a.image.now c.requires.0.0 a.guest a.k c.requires.1.1 _ c.l1_entry-e.ensures
    (sym c.good_l1.ensures ∙ c.if-good_l1.true) (λ z. c.if-t-eq0.false (v ∙ z)))

pub returns : goal.returns
returns c =
    ap Err c.into.ensures ∙ ap answer (row-bad c.args.g c.args.image.now c.requires.0.0 c.args.guest c.args.k c.requires.1.1 _ c.l1_entry-e.ensures
    (sym c.good_l1.ensures ∙ c.if-good_l1.false) c.requires.1.0)
