use borrow.Author.Rules.{rules}
use Rattle.endian.specs.Big.{be16}
use Rattle.endian.proofs.load16.Goals as goal

pub returns : goal.returns
unfolding be16
returns c = search rules
