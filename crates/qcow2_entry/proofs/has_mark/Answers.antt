use mathlib.Core.Path.{refl}
use Rattle.qcow2_spec.specs.Entries.{zero_mark}
use Rattle.qcow2_entry.proofs.has_mark.Goals as goal

pub returns : goal.returns
unfolding zero_mark
returns c = refl
