use mathlib.Core.Path.{ap}
use lib.ListN.{length}
use Rattle.qcow2_c.proofs.qcow2_backed_lookup.Goals as goal

pub returns : goal.returns
returns c = ap length c.lookup.ensures
