use mathlib.Core.Path.{sym, ◌∙◌}
use Rattle.qcow2_remark.specs.Fores.{right_l2}
use Rattle.qcow2_remark.proofs.Marking.{room_fair}
use Rattle.qcow2_remark.proofs.wrong_mark.Goals as goal

pub mark_right-requires : goal.mark_right-requires
mark_right-requires c =
    let a = c.args in
    ((c.requires.low, c.requires.high), room_fair a.scratch.now a.version a.bits a.n a.e c.requires (sym c.good_l2.ensures ∙ c.if-good_l2.true))

pub returns-then-good_l2 : goal.returns-then-good_l2
unfolding right_l2
returns-then-good_l2 c = rw (c.mark_right.ensures, sym c.good_l2.ensures ∙ c.if-good_l2.true)

pub returns : goal.returns
unfolding right_l2
returns c = rw (sym c.good_l2.ensures ∙ c.if-good_l2.false)
