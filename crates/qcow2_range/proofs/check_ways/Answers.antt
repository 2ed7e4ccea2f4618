use borrow.Author.Rules.{rules}
use native.Mathlib.Omega.{arith}
use Prim.Native.Nat.{◌+◌, ◌-◌, ◌%◌, ◌<◌, min}
use native.Mathlib.Nat.{add-zero, sub-zero, mod-lt}
use mathlib.Core.Path.{◌≡◌, sym, ap, ◌∙◌}
use Rattle.std.proofs.lemmas.Grind.{common_steps}
use Rattle.qcow2_spec.specs.Causes.{answer}
use Rattle.qcow2_spec.proofs.Answered.{answer_err, answer_ok}
use lib.Pow.{pow_pos}
use Rattle.qcow2_spec.specs.Header.{per_table}
use Rattle.qcow2_spec.proofs.Facts.{facts, e_pos}
use Rattle.qcow2_guest.proofs.Numbers.{row_of}
use Rattle.qcow2_range.proofs.Rows.{ways_stop, ways_next, ways_end}
use Rattle.qcow2_range.proofs.check_ways.Goals as goal

pub loop-i-init : goal.loop-i-init
loop-i-init c = (search rules, rw (add-zero, sub-zero))

pub check_row-requires : goal.check_row-requires
check_row-requires c =
    let a = c.args in
    let s = a.image.now in
    let o = c.requires.0 in
    let x = a.guest + c.loop-i.i in
    let m : c.piece-m.result ≡ min (per_table s - x % per_table s) (a.k - c.loop-i.i) = rw o.is-per at c.piece-m.ensures in
    let l : x % per_table s < per_table s = mod-lt x (e_pos s (facts s o.accepted)) in
    ((o, row_of a.g s o x (omega arith)), (omega (arith, m, l), omega (arith, m, l)))

pub returns-in_err-check_row : goal.returns-in_err-check_row
returns-in_err-check_row c =
    let l = c.loop-i in
    let a = c.args in
    let e = c.in_err-check_row.ensures in
    let v = answer_err _ _ (sym e) in
    let h = e ∙ ap answer (sym (l.invariant.1 ∙ ways_stop a.image.now a.g.root a.guest a.k l.i c.piece-m.result (omega arith) v.1)) in
    grind (arith, common_steps, h)

pub loop-i-smaller : goal.loop-i-smaller
loop-i-smaller c =
    let x = c.args.guest + c.loop-i.i in
    omega (arith, mod-lt x (pow_pos (c.args.g.bits - 3)))

pub loop-i-preserved : goal.loop-i-preserved
loop-i-preserved c =
    let l = c.loop-i in
    let a = c.args in
    (omega arith, l.invariant.1 ∙ ways_next a.image.now a.g.root a.guest a.k l.i c.piece-m.result (omega arith) (answer_ok _ _ (sym c.in_ok-check_row.ensures)))

pub returns : goal.returns
returns c =
    let l = c.loop-i in
    let a = c.args in
    sym (ap answer (l.invariant.1 ∙ ways_end a.image.now a.g.root a.guest a.k l.i (omega arith)))
