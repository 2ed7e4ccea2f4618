use lib.ListN.{length}
use Rattle.units.specs.Units.{fill}
use Rattle.units.proofs.Laws.{length-fill}
use Rattle.units.proofs.Steps.{stored}
use Rattle.qcow2_put.proofs.linking.put_bytes.Goals as goal

pub returns : goal.returns
returns c =
    let a = c.args in
    stored (fill a.at a.src.now) _ _ _ _ (length a.src.now) (length-fill a.src.now a.at) c.end_of.ensures c.store_bytes.ensures.1
