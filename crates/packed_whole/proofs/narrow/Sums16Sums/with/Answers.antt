use Rattle.std.proofs.Common.{arith, rules}
use Rattle.packed_whole.proofs.Told.{told16}
use Rattle.packed_whole.proofs.narrow.Sums16Sums.with.Goals as goal

pub returns : goal.returns
returns c =
    let a = c.args in
    let w = told16 a.block.now (λ i. omega (arith, c.type_inv.block i)) a.j a.figure c.requires.1 in
    (rw (w.0, c.from.ensures, c.from-f.ensures, c.turned16-t.ensures) (search rules), rw (w.1, c.from-2.ensures, c.from-f.ensures, c.turned16-t.ensures) (search rules))
