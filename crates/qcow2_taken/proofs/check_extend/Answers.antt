use borrow.Author.Rules.{rules}
use Rattle.std.specs.Prelude.{Err}
use Rattle.std.proofs.lemmas.Grind.{common_steps}
use native.Mathlib.Omega.{arith}
use mathlib.Core.Path.{◌≡◌, sym, ap, ◌∙◌}
use Rattle.qcow2_spec.specs.Header.{header_number}
use Rattle.qcow2_spec.specs.Causes.{answer}
use Rattle.qcow2_spec.proofs.Answered.{answer_err, answer_ok, answer_some}
use Rattle.qcow2_longer.specs.Extend.{longer_number, extend_number}
use Rattle.qcow2_taken.proofs.Numbers.{supported, held}
use Rattle.qcow2_taken.proofs.Rules.{extend_header, extend_longer, extend_later}
use Rattle.qcow2_taken.proofs.check_extend.Goals as goal

pub returns-in_err-check_header : goal.returns-in_err-check_header
returns-in_err-check_header c =
    let a = c.args in
    let k = c.in_err-check_header.field-0.0 in
    let e = answer_err (header_number a.image.now) k (sym c.in_err-check_header.ensures) in
    let h : Err k ≡ answer (extend_number a.image.now a.old) = rw (← e.0, ← extend_header a.image.now a.old e.1) (answer_some _ e.1) in
    grind (arith, common_steps)

pub gather-g-requires : goal.gather-g-requires
gather-g-requires c =
    let z : header_number c.args.image.now ≡ 0 = search (rules, answer_ok) in
    supported _ z

pub check_longer-requires : goal.check_longer-requires
check_longer-requires c = held _ (answer_ok _ _ (sym c.in_ok-check_header.ensures)) _ c.gather-g.ensures

pub returns-in_err-check_longer : goal.returns-in_err-check_longer
returns-in_err-check_longer c =
    let a = c.args in
    let s = a.image.now in
    let k = c.in_err-check_longer.field-0.0 in
    let e = answer_err (longer_number s a.old) k (sym c.in_err-check_longer.ensures) in
    let h : Err k ≡ answer (extend_number s a.old) = rw (← e.0, ← extend_longer s a.old (answer_ok _ _ (sym c.in_ok-check_header.ensures)) e.1) (answer_some _ e.1) in
    grind (arith, common_steps)

pub returns : goal.returns
returns c =
    let z = answer_ok (header_number c.args.image.now) _ (sym c.in_ok-check_header.ensures) in
    let y : longer_number c.args.image.now c.args.old ≡ 0 = search (rules, answer_ok) in
    c.check_later.ensures ∙ ap answer (extend_later _ _ z y)
