use Rattle.qcow2_spec.specs.Header.{entry_end}
use borrow.Author.Rules.{rules}
use Rattle.qcow2_snapshots.proofs.entry.entry_end.Goals as goal

pub returns : goal.returns
unfolding entry_end
returns c = search rules
