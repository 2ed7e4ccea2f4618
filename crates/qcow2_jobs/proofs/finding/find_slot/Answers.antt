use mathlib.Core.Path.{sym, ◌∙◌}
use Rattle.qcow2_jobs.proofs.Writes.{slot_new, slot-marked, slot-bytes}
use Rattle.qcow2_jobs.proofs.finding.find_slot.Goals as goal

pub find_new-requires : goal.find_new-requires
find_new-requires c = (c.requires.opened, c.requires.inside)

pub returns-then-p-eq0 : goal.returns-then-p-eq0
returns-then-p-eq0 c x =
    let a = c.args in
    slot_new a.g a.image.now a.entry_at a.e c.requires x _ (sym c.place_of-p.ensures.0 ∙ c.if-p-eq0.true) (c.find_new.ensures x)

pub returns-then-has_mark : goal.returns-then-has_mark
returns-then-has_mark c x =
    let a = c.args in
    slot-marked a.g a.image.now a.entry_at a.e c.requires x c.place_of-p.result c.place_of-p.ensures.0 c.if-p-eq0.false (sym c.has_mark.ensures ∙ c.if-has_mark.true)

pub returns : goal.returns
returns c x =
    let a = c.args in
    slot-bytes a.g a.image.now a.entry_at a.e c.requires x c.place_of-p.result c.place_of-p.ensures.0 c.if-p-eq0.false (sym c.has_mark.ensures ∙ c.if-has_mark.false)
