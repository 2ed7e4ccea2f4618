use native.Mathlib.Omega.{arith}
use Prim.Native.Nat.{◌*◌, ◌/◌, ◌^◌}
use lib.ListN.{length}
use mathlib.Core.Path.{◌≡◌, sym, ◌∙◌}
use borrow.Author.Tests.{not-false, not-true}
use Rattle.endian.specs.Big.{be64}
use Rattle.qcow2_groups.proofs.Fores.{fore_turn, fore_stop, fore_end}
use Rattle.qcow2_remark.specs.Fores.{right_l2}
use Rattle.qcow2_remark.proofs.Marking.{fore-whole}
use Rattle.qcow2_remark.proofs.table_fore.Goals as goal

pub loop-j-init : goal.loop-j-init
loop-j-init c =
    let a = c.args in
    fore-whole (right_l2 a.version (2 ^ a.bits) a.n a.scratch.now) a.table.now

pub wrong_mark-requires : goal.wrong_mark-requires
wrong_mark-requires c = c.requires

pub returns-then-wrong_mark : goal.returns-then-wrong_mark
returns-then-wrong_mark c =
    let a = c.args in
    let p = right_l2 a.version (2 ^ a.bits) a.n a.scratch.now in
    let l = c.loop-j in
    let e = not-true (p (be64 a.table.now (8 * l.j))) (rw c.load64.ensures at (sym c.wrong_mark.ensures ∙ c.if-wrong_mark.true)) in
    sym (fore_stop p _ l.j a.table.now c.loop-j-test.true e) ∙ l.invariant

pub loop-j-preserved : goal.loop-j-preserved
loop-j-preserved c =
    let a = c.args in
    let p = right_l2 a.version (2 ^ a.bits) a.n a.scratch.now in
    let l = c.loop-j in
    let e = not-false (p (be64 a.table.now (8 * l.j))) (rw c.load64.ensures at (sym c.wrong_mark.ensures ∙ c.if-wrong_mark.false)) in
    sym (fore_turn p _ l.j a.table.now c.loop-j-test.true e) ∙ l.invariant

pub returns : goal.returns
returns c =
    let a = c.args in
    let p = right_l2 a.version (2 ^ a.bits) a.n a.scratch.now in
    let l = c.loop-j in
    let e : l.j ≡ length a.table.now / 8 = omega arith in
    rw e at (sym (fore_end p _ l.j a.table.now c.loop-j-test.false) ∙ l.invariant)
