use Rattle.qcow2_kept.proofs.Bytes.{seven_stored}
use Rattle.qcow2_kept.proofs.put_seven.Goals as goal

pub returns : goal.returns
returns c =
    let a = c.args in
    seven_stored a.bytes.now _ _ a.stage a.root a.row a.n c.requires c.put_place.ensures c.put_numbers.ensures
