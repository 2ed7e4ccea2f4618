use native.Mathlib.Omega.{arith}
use Rattle.qcow2_repair.proofs.group_of.Goals as goal

pub returns-then-g-eq4 : goal.returns-then-g-eq4
returns-then-g-eq4 c = omega (arith, c.min.ensures, c.run_of.ensures)

pub returns : goal.returns
returns c = omega (arith, c.min-2.ensures, c.run_of-2.ensures)
