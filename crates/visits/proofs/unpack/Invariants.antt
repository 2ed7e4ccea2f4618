use Rattle.visits.proofs.Unpacks.{Unpacking}
use Rattle.visits.proofs.unpack.Given as goal

abbrev pub invariant-loop-k : goal.invariant-loop-k
invariant-loop-k l = Unpacking l.initial.scratch l.k l.scratch
