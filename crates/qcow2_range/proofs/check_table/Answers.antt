use native.Mathlib.Omega.{arith}
use Prim.Native.Nat.{◌^◌}
use mathlib.Core.Path.{sym, ap, ◌∙◌}
use Rattle.std.proofs.lemmas.Grind.{common_steps}
use Rattle.qcow2_spec.specs.Causes.{answer}
use Rattle.qcow2_range.specs.Slots.{slot}
use Rattle.qcow2_range.proofs.Rows.{stop, refuses, good, turn, over}
use Rattle.qcow2_range.proofs.check_table.Goals as goal

pub easy_end-i-requires : goal.easy_end-i-requires
easy_end-i-requires c = (c.requires.0, c.requires.1.0)

pub loop-i-init : goal.loop-i-init
loop-i-init c = let a = c.args in c.easy_end-i.ensures.1 a.version a.at

pub returns-in_err-way_in : goal.returns-in_err-way_in
unfolding slot
returns-in_err-way_in c =
    let l = c.loop-i in
    let a = c.args in
    let f = slot a.version (2 ^ a.bits) a.n a.at a.table.now in
    let e = c.in_err-way_in.ensures in
    let h = ap answer l.invariant ∙ sym (stop f l.i a.end _ (omega arith) (sym e) (λ z. refuses _ _ _ _ _ _ (sym e) z)) in
    grind (arith, common_steps, h)

pub loop-i-preserved : goal.loop-i-preserved
unfolding slot
loop-i-preserved c =
    let l = c.loop-i in
    let a = c.args in
    l.invariant ∙ turn (slot a.version (2 ^ a.bits) a.n a.at a.table.now) l.i a.end (omega arith) (good _ _ (sym c.in_ok-way_in.ensures))

pub returns : goal.returns
returns c =
    let l = c.loop-i in
    let a = c.args in
    sym (ap answer (l.invariant ∙ over (slot a.version (2 ^ a.bits) a.n a.at a.table.now) l.i a.end (omega arith)))
