use borrow.Author.Rules.{rules}
use native.Mathlib.Nat.{sub-zero}
use native.Mathlib.Omega.{arith}
use Prim.Native.Nat.{◌+◌, ◌*◌, ◌≤◌}
use mathlib.Core.Path.{◌≡◌, refl, sym, ap, ◌∙◌}
use lib.ListN.{drop}
use lib.Pow.{pow_mono}
use Rattle.qcow2_spec.specs.Header.{per_table, root_at}
use Rattle.qcow2_spec.specs.References.{l1_refs, l1_entries}
use Rattle.qcow2_refs.specs.declared.Progress.{Progress}
use Rattle.qcow2_refs.specs.Walks.{row_at}
use Rattle.endian.proofs.Entries.{be64-drop}
use Rattle.qcow2_refs.proofs.Trees.{tree_turn, tree_end}
use Rattle.qcow2_refs.proofs.Passing.{found_first, row_next, found-next}
use Rattle.qcow2_refs.proofs.walk.walk_rows.Goals as goal

pub loop-w-init : goal.loop-w-init
loop-w-init c = let a = c.args in (search rules, refl, found_first a.leaf a.image.now a.g.root 0, rw sub-zero)

pub next_row-w-requires : goal.next_row-w-requires
next_row-w-requires c =
    ((c.requires.0.0, (c.loop-w.invariant.1 ∙ c.requires.0.1, c.loop-w-test.true)), c.requires.1)

pub loop-w-smaller : goal.loop-w-smaller
loop-w-smaller c =
    let n = c.next_row-w in
    let w = c.loop-w.w in
    let e : n.result.row ≡ w.row + 1 = ap (λ (x : Progress). x.row) n.ensures.0 ∙ row_next _ w _ in
    omega arith

pub loop-w-preserved : goal.loop-w-preserved
unfolding row_at
loop-w-preserved c =
    let n = c.next_row-w in
    let a = c.args in
    let o = c.requires.0.0 in
    let s = a.image.now in
    let w = c.loop-w.w in
    let i = c.loop-w.invariant in
    let r = root_at s a.g.root in
    let d = be64-drop s r (8 * w.row) in
    let h = c.loop-w-test.true in
    let p : 1 ≤ per_table s = omega (arith, o.is-cluster, o.eight, pow_mono o.low) in
    let e : n.result.row ≡ w.row + 1 = ap (λ (x : Progress). x.row) n.ensures.0 ∙ row_next _ w _ in
    (omega arith, search rules, rw e (found-next a.leaf s a.g.root w n.result p i.2 n.ensures.0), rw (e, n.ensures.1) (sym (rw d at (tree_turn (l1_refs s) a.table a.leaf a.g.l1size w.row (drop r s) c.loop-w.scratch h)) ∙ i.3))

pub returns : goal.returns
unfolding l1_entries
returns c =
    let s = c.args.image.now in
    let i = c.loop-w.invariant in
    let e : c.loop-w.w.row ≡ c.args.g.l1size = omega (arith, i.0, c.loop-w-test.false) in
    let a = c.args in
    let v = tree_end (l1_refs s) a.table a.leaf a.g.l1size c.loop-w.w.row (drop (root_at s a.g.root) s) _ c.loop-w-test.false in
    (rw e at i.2, rw (← c.requires.0.0.is_l1size) (sym v ∙ i.3))
