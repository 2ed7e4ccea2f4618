use borrow.Author.Rules.{rules}
use native.Mathlib.Omega.{arith}
use Rattle.widths.proofs.Whole.{load16_is, load32_is, load64_is}
use Rattle.widths.proofs.load.Goals as goal

pub returns-in-4 : goal.returns-in-4
returns-in-4 c =
    load16_is c.args.order c.in-4.is c.args.s.now c.args.at c.from.result c.requires (search rules) (omega arith)

pub returns-in-5 : goal.returns-in-5
returns-in-5 c =
    load32_is c.args.order c.in-5.is c.args.s.now c.args.at c.from-in-5.result c.requires (search rules) (omega arith)

pub returns-in-6 : goal.returns-in-6
returns-in-6 c =
    load64_is c.args.order c.in-6.is c.args.s.now c.args.at c.load64.result c.requires c.load64.ensures (omega arith)
