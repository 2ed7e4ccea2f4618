use Rattle.packed_twos.specs.Twos.{figures_in}
use Rattle.qcow2_rows.proofs.Repairs.{Going}
use Rattle.qcow2_rows.proofs.counts.count_rows.Given as goal

abbrev pub invariant-loop-i : goal.invariant-loop-i
invariant-loop-i l = Going l.epoch l.image (figures_in l.refs) l.g.clusters l.initial.rows l.k l.rows l.r l.i
