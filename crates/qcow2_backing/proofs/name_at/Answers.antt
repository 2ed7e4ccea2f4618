use Rattle.qcow2_spec.specs.Header.{backing_offset}
use Rattle.qcow2_backing.proofs.name_at.Goals as goal

pub returns : goal.returns
unfolding backing_offset
returns c = c.load64.ensures
