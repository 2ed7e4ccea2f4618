use Rattle.std.proofs.Common.{sym, ◌∙◌}
use Rattle.packed_narrow.proofs.Blanks.{blank_counted}
use Rattle.packed_narrow.proofs.group.Goals as goal

pub returns-then-all_blank : goal.returns-then-all_blank
returns-then-all_blank c =
    blank_counted c.args.order c.args.block.now c.args.figures.now c.filled.result (sym c.all_blank.ensures ∙ c.if-all_blank.true)
    (rw c.requires.1.0.1 c.filled.ensures)
