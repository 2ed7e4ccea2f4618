use native.Mathlib.Omega.{arith}
use Prim.Native.Nat.{◌≤◌, ◌<◌}
use mathlib.Core.Path.{◌≡◌, refl, sym, ◌∙◌}
use mathlib.Core.Bool.{true, false, not}
use borrow.Author.Tests.{not-false}
use Rattle.tally.specs.States.{twos}
use Rattle.qcow2_spec.specs.Header.{root_size}
use Rattle.qcow2_refs.specs.Walks.{row_at, below_at}
use Rattle.qcow2_fails.specs.Seeks.{seek_of, below_count}
use Rattle.qcow2_fails.proofs.Failing.{row-good}
use Rattle.qcow2_seek.proofs.Naming.{names_row, names_below}
use Rattle.qcow2_seek.proofs.Naming.{rows-first, rows_later, rows_hit, rows_miss, rows_none, below_hit, below_miss, below_none, below_later}
use Rattle.qcow2_seek.proofs.search.Invariants.{seek}
use Rattle.qcow2_seek.proofs.search.Goals as goal

pub outer-init : goal.outer-init
outer-init c =
    let a = c.args in
    let s = a.image.now in
    let w = seek a.marks s a.scratch.now a.g.clusters a.g.root in
    let q = c.requires.1 in
    (refl, rows_later s w a.g.root a.from (rw c.requires.0.0.is_l1size at q.0) q.1.0, q.1.1)

pub row_fails-requires : goal.row_fails-requires
row_fails-requires c = ((c.requires.0.0, c.outer-test.true), c.requires.0.1)

pub below_count-end-requires : goal.below_count-end-requires
below_count-end-requires c = (c.requires.0.0, c.outer-test.true)

pub loop-j-init : goal.loop-j-init
loop-j-init c =
    let a = c.args in
    let s = a.image.now in
    let u = a.g.root in
    let w = seek a.marks s a.scratch.now a.g.clusters u in
    let i = c.outer.i in
    let e : not (w.good1 (row_at s u i)) ≡ false = sym c.row_fails.ensures ∙ c.if-row_fails.false in
    let l : i < root_size s u = rw c.requires.0.0.is_l1size at c.outer-test.true in
    (c.outer.invariant.0, below_later s w u i c.outer.known c.outer.invariant.2 ∙ sym (rows_miss s w u i l e) ∙ c.outer.invariant.1)

pub below_fails-requires : goal.below_fails-requires
below_fails-requires c =
    let a = c.args in
    let q = c.requires.0 in
    let e = sym c.row_fails.ensures ∙ c.if-row_fails.false in
    let h = row-good a.g a.image.now a.scratch.now q.0 a.marks c.outer.i c.outer-test.true q.1 e in
    (((q.0, c.outer-test.true), (h, rw c.below_count-end.ensures at c.loop-j-test.true)), q.1)

pub loop-j-preserved : goal.loop-j-preserved
loop-j-preserved c =
    let a = c.args in
    let s = a.image.now in
    let u = a.g.root in
    let w = seek a.marks s a.scratch.now a.g.clusters u in
    let i = c.outer.i in
    let j = c.loop-j.j in
    let e : w.good2 (below_at s u i j) ≡ true = not-false _ (sym c.below_fails.ensures ∙ c.if-below_fails.false) in
    let k : j < below_count s u i = rw c.below_count-end.ensures at c.loop-j-test.true in
    (c.loop-j.invariant.0, sym (below_miss s w u i j k e) ∙ c.loop-j.invariant.1)

pub outer-preserved : goal.outer-preserved
outer-preserved c =
    let a = c.args in
    let s = a.image.now in
    let u = a.g.root in
    let w = seek a.marks s a.scratch.now a.g.clusters u in
    let i = c.outer.i in
    let k : below_count s u i ≤ c.loop-j.j = rw c.below_count-end.ensures at c.loop-j-test.false in
    (c.loop-j.invariant.0, sym (below_none s w u i c.loop-j.j k) ∙ c.loop-j.invariant.1, λ x m. absurd (omega arith))

-- nothing is found
pub returns-after-outer : goal.returns-after-outer
returns-after-outer c =
    let a = c.args in
    let s = a.image.now in
    let u = a.g.root in
    let w = seek a.marks s a.scratch.now a.g.clusters u in
    let i = c.outer.i in
    rw c.outer.invariant.0 (sym (rows_none s w u i (rw c.requires.0.0.is_l1size at c.outer-test.false)) ∙ c.outer.invariant.1 ∙ rows-first s w u)

pub returns-then-row_fails : goal.returns-then-row_fails
returns-then-row_fails c =
    let a = c.args in
    let s = a.image.now in
    let u = a.g.root in
    let fs = twos a.scratch.now 0 a.g.clusters in
    let w = seek_of a.marks s fs u in
    let i = c.outer.i in
    let e : not (w.good1 (row_at s u i)) ≡ true = sym c.row_fails.ensures ∙ c.if-row_fails.true in
    c.name_row-found.ensures ∙ sym (names_row a.marks s fs u i)
    ∙ sym (rows_hit s w u i (rw c.requires.0.0.is_l1size at c.outer-test.true) e) ∙ c.outer.invariant.1 ∙ rows-first s w u

pub returns-then-below_fails : goal.returns-then-below_fails
returns-then-below_fails c =
    let a = c.args in
    let s = a.image.now in
    let u = a.g.root in
    let fs = twos a.scratch.now 0 a.g.clusters in
    let w = seek_of a.marks s fs u in
    let i = c.outer.i in
    let j = c.loop-j.j in
    let e : not (w.good2 (below_at s u i j)) ≡ true = sym c.below_fails.ensures ∙ c.if-below_fails.true in
    let k : j < below_count s u i = rw c.below_count-end.ensures at c.loop-j-test.true in
    c.name_below-found.ensures ∙ sym (names_below a.marks s fs u i j)
    ∙ sym (below_hit s w u i j k e) ∙ c.loop-j.invariant.1 ∙ rows-first s w u
