use mathlib.Core.Path.{◌≡◌}
use lib.ListN.{length}
use Rattle.packed_twos.specs.Twos.{figures_in}
use Rattle.qcow2_setcount.proofs.Fixes.{Run}
use Rattle.qcow2_setcount.proofs.repair_each.Given as goal

abbrev pub invariant-loop-j : goal.invariant-loop-j
invariant-loop-j l = (length l.image ≡ length l.initial.image) × Run l.order l.initial.image l.at (figures_in l.refs) l.n l.allowance l.j l.spent l.image
