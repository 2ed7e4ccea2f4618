use Rattle.fills.proofs.Fills.{zeros-alone}
use Rattle.qcow2_put.proofs.linking.allot_zeros.Goals as goal

pub returns : goal.returns
returns c =
    let a = c.args in
    rw (zeros-alone a.c) at c.allot.ensures
