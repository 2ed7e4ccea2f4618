use native.Mathlib.Omega.{arith}
use Rattle.qcow2_windows.proofs.look_by.Goals as goal

pub whole_as_slice-look_in : goal.whole_as_slice-look_in
whole_as_slice-look_in g c = omega (arith, c.requires.1.1)
