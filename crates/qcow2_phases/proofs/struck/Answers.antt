-- `qcow2_phases::struck` meets its contract. Assumes nothing.
use Rattle.qcow2_phases.proofs.Turns.{other_phase, own_phase}
use Rattle.qcow2_phases.proofs.struck.Goals as goal

pub returns-then-zs-i : goal.returns-then-zs-i
returns-then-zs-i c = other_phase _ _ _ c.if-zs-i.true

pub returns : goal.returns
returns c = own_phase _ _ _ _ c.if-zs-i.false c.scan.ensures
