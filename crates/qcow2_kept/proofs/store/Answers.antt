use mathlib.Core.Path.{sym, ap, ◌∙◌}
use Rattle.qcow2_kept.specs.Kept.{state_bytes}
use Rattle.qcow2_kept.proofs.store.Goals as goal

pub returns-in-New : goal.returns-in-New
unfolding state_bytes
returns-in-New c = c.put_seven.ensures ∙ sym (ap state_bytes c.in-New.is)

pub returns-in-Going : goal.returns-in-Going
unfolding state_bytes
returns-in-Going c = (rw c.numbers_of.ensures at c.put_seven-in-Going.ensures) ∙ sym (ap state_bytes c.in-Going.is)

pub returns-in-Finished : goal.returns-in-Finished
unfolding state_bytes
returns-in-Finished c = (rw c.numbers_of-in-Finished.ensures at c.put_seven-in-Finished.ensures) ∙ sym (ap state_bytes c.in-Finished.is)
