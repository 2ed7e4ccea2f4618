use Rattle.qcow2_spec.specs.Header.{name_length}
use Rattle.qcow2_backing.specs.Backing.{shown_length}
use Rattle.qcow2_backing.proofs.name_len.Goals as goal

pub returns-then-g : goal.returns-then-g
unfolding shown_length name_length
returns-then-g c = rw (← c.requires.is-backed, c.if-g.true) c.load32.ensures

pub returns : goal.returns
unfolding shown_length
returns c = rw (← c.requires.is-backed, c.if-g.false)
