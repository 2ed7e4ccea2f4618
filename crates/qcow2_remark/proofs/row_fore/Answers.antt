use mathlib.Core.Path.{sym, ◌∙◌}
use Rattle.qcow2_spec.proofs.Places.{place_inside, l1_place}
use Rattle.qcow2_remark.proofs.Marking.{row_fair, row-bad, row-own, row-none, row-some}
use Rattle.qcow2_remark.proofs.row_fore.Goals as goal

pub mark_right-requires : goal.mark_right-requires
mark_right-requires c =
    let a = c.args in
    let o = c.requires.0 in
    ((o.low, o.high), row_fair a.g a.image.now a.scratch.now o a.e c.requires.1 (sym c.good_l1.ensures ∙ c.if-good_l1.true))

pub returns-then-p-eq0 : goal.returns-then-p-eq0
returns-then-p-eq0 c =
    let a = c.args in
    let w = c.power in
    row-none a.g a.image.now a.scratch.now c.requires.0 w.result a.e w.ensures.0
    (sym c.good_l1.ensures ∙ c.if-good_l1.true)
    (sym c.mark_right.ensures ∙ c.if-mark_right.true)
    (sym c.place_of-p.ensures.0 ∙ c.if-p-eq0.true)

pub below_fore-requires : goal.below_fore-requires
below_fore-requires c =
    let a = c.args in
    let p = c.place_of-p.ensures.0 in
    let h = sym c.good_l1.ensures ∙ c.if-good_l1.true in
    (c.requires, rw p (place_inside _ _ a.e (l1_place _ _ a.e h) (λ z. c.if-p-eq0.false (p ∙ z))))

pub returns-then-mark_right : goal.returns-then-mark_right
returns-then-mark_right c =
    let a = c.args in
    let w = c.power in
    let p = c.place_of-p.ensures.0 in
    (rw p at c.below_fore.ensures)
    ∙ row-some a.g a.image.now a.scratch.now c.requires.0 w.result a.e w.ensures.0
    (sym c.good_l1.ensures ∙ c.if-good_l1.true)
    (sym c.mark_right.ensures ∙ c.if-mark_right.true)
    (λ z. c.if-p-eq0.false (p ∙ z))

pub returns-then-good_l1 : goal.returns-then-good_l1
returns-then-good_l1 c =
    let a = c.args in
    let w = c.power in
    row-own a.g a.image.now a.scratch.now c.requires.0 w.result a.e w.ensures.0
    (sym c.good_l1.ensures ∙ c.if-good_l1.true)
    (sym c.mark_right.ensures ∙ c.if-mark_right.false)

pub returns : goal.returns
returns c =
    let a = c.args in
    let w = c.power in
    row-bad a.g a.image.now a.scratch.now c.requires.0 w.result a.e w.ensures.0 (sym c.good_l1.ensures ∙ c.if-good_l1.false)
