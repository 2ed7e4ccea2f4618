use mathlib.Core.Path.{sym, ◌∙◌}
use lib.ListN.{length, replicate, length-replicate}
use Rattle.choice.proofs.Tests.{if_yes, if_no}
use Rattle.endian.proofs.Laws.{splice-whole}
use Rattle.qcow2_under.specs.Under.{under_bytes}
use Rattle.qcow2_under.proofs.put_under.Goals as goal

pub returns-then-backed : goal.returns-then-backed
unfolding under_bytes
returns-then-backed c = c.put_lent.ensures ∙ sym (if_yes c.args.backed _ _ c.if-backed.true)

pub returns-else-backed : goal.returns-else-backed
unfolding under_bytes
returns-else-backed c =
    let a = c.args in
    let l = a.part.now in
    c.zeros.ensures ∙ splice-whole l (replicate (length l) 0) (length-replicate (length l) 0) ∙ sym (if_no a.backed _ _ c.if-backed.false)
