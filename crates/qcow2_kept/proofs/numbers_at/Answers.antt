use mathlib.Core.Path.{refl}
use Rattle.qcow2_kept.proofs.numbers_at.Goals as goal

pub returns : goal.returns
returns c = rw (c.load64.ensures, c.load64-2.ensures, c.load64-3.ensures, c.load64-4.ensures) refl
