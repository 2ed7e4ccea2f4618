use Rattle.std.proofs.Common.{arith, rules}
use Rattle.packed_whole.proofs.Told.{told64}
use Rattle.packed_whole.proofs.halves.Sums64Sums.with.Goals as goal

pub returns : goal.returns
returns c =
    let a = c.args in
    let w = told64 a.block.now (λ i. omega (arith, c.type_inv.block i)) a.j a.figure c.requires.1 _ _ c.turned32-h.ensures c.turned32-t.ensures (omega arith) in
    (rw (w.0, c.from.ensures, c.from-f.ensures) (search rules), rw (w.1, c.from-2.ensures, c.from-f.ensures) (search rules))
