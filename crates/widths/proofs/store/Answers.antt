use mathlib.Core.Path.{◌∙◌}
use Rattle.widths.proofs.Whole.{store16_is, store32_is, store64_is}
use Rattle.widths.proofs.store.Goals as goal

pub returns-in-4 : goal.returns-in-4
returns-in-4 c = c.store16.ensures ∙ store16_is c.args.order c.in-4.is c.args.s.now c.args.at c.args.x c.requires

pub returns-in-5 : goal.returns-in-5
returns-in-5 c = c.store32.ensures ∙ store32_is c.args.order c.in-5.is c.args.s.now c.args.at c.args.x c.requires

pub returns-in-6 : goal.returns-in-6
returns-in-6 c = c.store64.ensures ∙ store64_is c.args.order c.in-6.is c.args.s.now c.args.at c.args.x c.requires
