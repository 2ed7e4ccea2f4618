use native.Mathlib.Omega.{arith}
use Prim.Native.Nat.{◌*◌, ◌/◌, ◌^◌, ◌≤◌}
use mathlib.Core.Path.{◌≡◌, refl, sym, ap, ◌∙◌}
use mathlib.Core.Bool.{true}
use lib.ListN.{length}
use Rattle.choice.proofs.Tests.{true-not-false}
use Rattle.qcow2_spec.specs.Entries.{place}
use Rattle.qcow2_refs.specs.Walks.{row_at}
use Rattle.qcow2_marks.specs.Marks.{right}
use Rattle.qcow2_marks.proofs.Rights.{row_fair, row-table, row-none, row-some}
use Rattle.qcow2_marks.proofs.row_right.Goals as goal
use Rattle.qcow2_marks.proofs.row_right.Goals.{After-place_of-p}

pub mark_right-requires : goal.mark_right-requires
mark_right-requires c =
    let o = c.requires.0.0 in
    let a = c.args in
    let s = a.image.now in
    let S = a.scratch.now in
    let m = length S / 2 in
    let q : m ≡ a.g.clusters = omega (arith, c.requires.0.1) in
    let n : length s ≡ m * 2 ^ a.g.bits = rw q o.whole in
    let h : 1 ≤ length s = omega (arith, o.long) in
    ((o.low, o.high), rw c.row_at-e.ensures (row_fair s S a.g.bits m (row_at s a.g.root a.i) o.is-cluster n h c.requires.1.1))

-- the entry's mark is right, and its place
own : (c : After-place_of-p) →
    (right (2 ^ c.args.g.bits) c.args.scratch.now (row_at c.args.image.now c.args.g.root c.args.i) ≡ true)
    × (c.place_of-p.result ≡ place (row_at c.args.image.now c.args.g.root c.args.i))
own c =
    (rw c.row_at-e.ensures at (sym c.mark_right.ensures ∙ c.if-mark_right.true), c.place_of-p.ensures.0 ∙ ap place c.row_at-e.ensures)

pub returns-then-p-eq0 : goal.returns-then-p-eq0
returns-then-p-eq0 c = λ e.
    let o = c.requires.0.0 in
    let a = c.args in
    let s = a.image.now in
    let h : 1 ≤ length s = omega (arith, o.long) in
    row-none s a.scratch.now a.g.bits a.g.clusters (row_at s a.g.root a.i) o.is-cluster o.whole h c.requires.1.1 (own (goal.at.returns-then-p-eq0 c).After-place_of-p).0 (sym (own (goal.at.returns-then-p-eq0 c).After-place_of-p).1 ∙ c.if-p-eq0.true)

pub table_right-requires : goal.table_right-requires
table_right-requires c =
    let o = c.requires.0.0 in
    let a = c.args in
    let s = a.image.now in
    let h : 1 ≤ length s = omega (arith, o.long) in
    let t = row-table s a.scratch.now a.g.bits a.g.clusters (row_at s a.g.root a.i) o.is-cluster o.whole h c.requires.1.1 (λ z. c.if-p-eq0.false ((own (goal.at.table_right-requires c).After-place_of-p).1 ∙ z)) in
    (c.requires.0, (rw (own (goal.at.table_right-requires c).After-place_of-p).1 t.1, rw (own (goal.at.table_right-requires c).After-place_of-p).1 t.0))

pub returns-then-mark_right : goal.returns-then-mark_right
returns-then-mark_right c = λ e.
    let o = c.requires.0.0 in
    let a = c.args in
    let s = a.image.now in
    let h : 1 ≤ length s = omega (arith, o.long) in
    row-some s a.scratch.now a.g.bits a.g.clusters (row_at s a.g.root a.i) o.is-cluster o.whole h c.requires.1.1 (own (goal.at.returns-then-mark_right c).After-place_of-p).0 (λ z. c.if-p-eq0.false ((own (goal.at.returns-then-mark_right c).After-place_of-p).1 ∙ z)) (rw (own (goal.at.returns-then-mark_right c).After-place_of-p).1 at (c.table_right.ensures e))

pub returns : goal.returns
returns c = λ e. absurd (true-not-false e refl)

pub row_at-e-requires : goal.row_at-e-requires
row_at-e-requires c = (c.requires.0.0, c.requires.1.0)
