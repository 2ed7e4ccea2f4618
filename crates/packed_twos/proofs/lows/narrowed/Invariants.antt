use Rattle.packed_twos.proofs.Seen.{Seen}
use Rattle.packed_twos.proofs.lows.narrowed.Given as goal

abbrev pub invariant-loop-j : goal.invariant-loop-j
invariant-loop-j l = Seen l.figures l.bytes l.seen l.j
