use Rattle.scans.proofs.Flags.{Seen}
use Rattle.scans.proofs.some_double.Given as goal

abbrev pub invariant-loop-k : goal.invariant-loop-k
invariant-loop-k l = Seen l.scratch l.seen l.k
