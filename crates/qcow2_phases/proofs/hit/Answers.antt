-- `qcow2_phases::hit` meets its contract. Assumes nothing.
use Rattle.qcow2_phases.proofs.Turns.{other_phase, own_phase}
use Rattle.qcow2_phases.proofs.hit.Goals as goal

pub returns-then-rows-i : goal.returns-then-rows-i
returns-then-rows-i c = other_phase _ _ _ c.if-rows-i.true

pub returns : goal.returns
returns c = own_phase _ _ _ _ c.if-rows-i.false c.touches.ensures
