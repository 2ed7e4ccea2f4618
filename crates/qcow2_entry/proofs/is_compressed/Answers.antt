use mathlib.Core.Path.{refl}
use Rattle.qcow2_spec.specs.Entries.{compressed}
use Rattle.qcow2_entry.proofs.is_compressed.Goals as goal

pub returns : goal.returns
unfolding compressed
returns c = refl
