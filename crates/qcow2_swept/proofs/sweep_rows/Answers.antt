use borrow.Author.Rules.{rules}
use native.Mathlib.Omega.{arith}
use Prim.Native.Nat.{◌*◌, ◌≤◌, ◌<◌}
use mathlib.Core.Path.{refl, sym, ◌∙◌}
use lib.ListN.{drop}
use Rattle.endian.proofs.Entries.{be64-drop}
use Rattle.window.specs.Window.{board}
use Rattle.qcow2_spec.specs.Header.{root_at}
use Rattle.qcow2_spec.specs.References.{l1_refs}
use Rattle.qcow2_refs.specs.Walks.{row_at}
use Rattle.qcow2_swept.proofs.Tables.{tree_turn, tree_end, rows-part}
use Rattle.qcow2_swept.proofs.Verdicts.{rows_turn, rows_end}
use Rattle.qcow2_swept.proofs.Blanks.{rows_left_lem, tree_left}
use Rattle.qcow2_swept.proofs.sweep_rows.Goals as goal

pub loop-i-init : goal.loop-i-init
loop-i-init c = ((search rules, c.requires.0.1.0), refl, refl, refl)

pub skip-k-requires : goal.skip-k-requires
skip-k-requires c = let p = c.requires.0 in (c.loop-i-test.true, omega (arith, p.1.1, p.0.l1_fits, p.0.is_l1at, p.0.is_l1size))

pub returns-then-k-to : goal.returns-then-k-to
returns-then-k-to c =
    let t = c.loop-i in
    let a = c.args in
    let s = a.image.now in
    let p = c.requires.0 in
    let l = drop (root_at s a.g.root) s in
    let e = c.skip-k in
    let k = e.result in
    let h : a.to ≤ k = omega (arith, c.if-k-to.true) in
    let q = rows-part s a.g.root a.from a.to p.1.0 (omega (arith, p.1.1, p.0.is_l1size)) in (
      rw q (sym (rows_end a.leaf s a.g.root a.to k l t.s.found h) ∙ sym (rows_left_lem s a.leaf a.g.root a.table a.b a.to a.g.l1at t.i k t.s.found (board t.target t.s.low) p.0.is_l1at e.ensures.0 e.ensures.1) ∙ t.invariant.2),
      rw q (sym (tree_end (l1_refs s) a.table a.leaf a.b a.to k l (board t.target t.s.low) h) ∙ sym (tree_left s a.leaf a.g.root a.table a.b a.to a.g.l1at t.i k t.s.found (board t.target t.s.low) p.0.is_l1at e.ensures.0 e.ensures.1) ∙ t.invariant.3),
    )

pub next_row-s-requires : goal.next_row-s-requires
next_row-s-requires c =
    let p = c.requires in
    ((p.0.0, omega (arith, c.skip-k.ensures.1, c.if-k-to.false, p.0.1.1)), p.1)

pub loop-i-preserved : goal.loop-i-preserved
unfolding row_at
loop-i-preserved c =
    let n = c.next_row-s.ensures in
    let t = c.loop-i in
    let p = c.requires.0.0 in
    let a = c.args in
    let s = a.image.now in
    let r = root_at s a.g.root in
    let e = c.skip-k in
    let k = e.result in
    let d = be64-drop s r (8 * k) in
    let h : k < a.to = omega (arith, e.ensures.1, c.if-k-to.false) in (
      (omega (arith, e.ensures.0.on, t.invariant.0.0), omega (arith, h)),
      search rules,
      rw n.0 (sym (rw d at (rows_turn a.leaf s a.g.root a.to k (drop r s) t.s.found h)) ∙ sym (rows_left_lem s a.leaf a.g.root a.table a.b a.to a.g.l1at t.i k t.s.found (board t.target t.s.low) p.is_l1at e.ensures.0 e.ensures.1) ∙ t.invariant.2),
      rw n.1 (sym (rw d at (tree_turn (l1_refs s) a.table a.leaf a.b a.to k (drop r s) (board t.target t.s.low) h)) ∙ sym (tree_left s a.leaf a.g.root a.table a.b a.to a.g.l1at t.i k t.s.found (board t.target t.s.low) p.is_l1at e.ensures.0 e.ensures.1) ∙ t.invariant.3),
    )

pub loop-i-smaller : goal.loop-i-smaller
loop-i-smaller c = omega (arith, c.skip-k.ensures.0.on, c.skip-k.ensures.1, c.if-k-to.false, c.loop-i-test.true)

pub returns : goal.returns
returns c =
    let t = c.loop-i in
    let a = c.args in
    let s = a.image.now in
    let p = c.requires.0 in
    let l = drop (root_at s a.g.root) s in
    let h = c.loop-i-test.false in
    let e = rows-part s a.g.root a.from a.to p.1.0 (omega (arith, p.1.1, p.0.is_l1size)) in (
      rw e (sym (rows_end a.leaf s a.g.root a.to t.i l t.s.found h) ∙ t.invariant.2),
      rw e (sym (tree_end (l1_refs s) a.table a.leaf a.b a.to t.i l (board t.target t.s.low) h) ∙ t.invariant.3),
    )
