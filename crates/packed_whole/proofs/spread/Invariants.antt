use Rattle.std.proofs.Common.{◌≡◌}
use Rattle.choice.specs.Pick.{count}
use Rattle.packed.specs.Packed.{unlike_at, under_at}
use Rattle.packed_whole.proofs.spread.Given as goal

abbrev pub invariant-loop-j : goal.invariant-loop-j
invariant-loop-j g l =
    let s = g.S.Sums in
    (s.unlike l.sums ≡ count (unlike_at s.order l.block l.figures) l.k l.j) × (s.under l.sums ≡ count (under_at s.order l.block l.figures) l.k l.j)
