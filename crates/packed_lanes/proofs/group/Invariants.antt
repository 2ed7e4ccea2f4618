use Rattle.packed_lanes.proofs.Lanes.{Lanes}
use Rattle.packed_lanes.proofs.group.Given as goal

abbrev pub invariant-loop-b : goal.invariant-loop-b
invariant-loop-b g l =
    let w = g.W.Word in
    Lanes w.order l.block l.figures l.b (w.value l.over) (w.value l.under)
