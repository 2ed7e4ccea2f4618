use borrow.Author.Rules.{rules}
use lib.ListN.{length}
use Rattle.qcow2_jobs.proofs.Discards.{tableless, nothing}
use Rattle.qcow2_jobs.proofs.releasing.find_none.Goals as goal

pub returns-then-g : goal.returns-then-g
returns-then-g c =
    let h = tableless c.args.g c.args.image.now c.requires (length c.args.image.now) c.if-g.true in search (rules, h)

pub returns-else-g : goal.returns-else-g
returns-else-g c =
    nothing c.args.g c.args.image.now c.requires _ c.if-g.false
