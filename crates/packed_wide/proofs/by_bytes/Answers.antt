use native.Mathlib.Omega.{arith}
use native.Mathlib.Nat.{sub-zero}
use Rattle.packed_twos.proofs.Laws.{length-twos}
use Rattle.packed_wide.proofs.by_bytes.Goals as goal

pub compare-requires : goal.compare-requires
compare-requires c =
    let w = c.narrowed.ensures.1 c.if-narrowed.true in
    rw (sub-zero, w.0, length-twos) ((c.requires.0.0, omega (arith, c.requires.0.1)), w.1)

pub returns-then-narrowed : goal.returns-then-narrowed
returns-then-narrowed c =
    let w = c.narrowed.ensures.1 c.if-narrowed.true in
    rw (sub-zero, w.0, length-twos) at c.compare.ensures
