use Rattle.qcow2_runs.proofs.Listing.{Listing}
use Rattle.qcow2_runs.proofs.store_runs.Given as goal

abbrev pub invariant-loop-k : goal.invariant-loop-k
invariant-loop-k l = Listing l.image l.g.root l.x l.len l.room l.initial.rows l.k l.done l.rows
