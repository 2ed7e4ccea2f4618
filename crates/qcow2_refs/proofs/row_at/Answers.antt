use Rattle.qcow2_refs.specs.Walks.{row_at}
use Rattle.qcow2_refs.proofs.row_at.Goals as goal

pub returns : goal.returns
unfolding row_at
returns c = rw (← c.requires.0.is_l1at) c.load64.ensures
