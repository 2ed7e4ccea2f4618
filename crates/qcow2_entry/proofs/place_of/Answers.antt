use native.Mathlib.Omega.{arith}
use mathlib.Core.Path.{refl}
use Rattle.qcow2_spec.specs.Entries.{place}
use Rattle.qcow2_entry.proofs.place_of.Goals as goal

pub returns : goal.returns
unfolding place
returns c = (refl, omega arith)
