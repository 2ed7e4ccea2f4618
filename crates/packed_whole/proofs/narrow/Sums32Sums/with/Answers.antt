use Rattle.std.proofs.Common.{arith, rules}
use Rattle.packed_whole.proofs.Told.{told32, if-not}
use Rattle.packed_whole.proofs.narrow.Sums32Sums.with.Goals as goal

pub returns : goal.returns
returns c =
    let a = c.args in
    let w = told32 a.block.now (λ i. omega (arith, c.type_inv.block i)) a.j a.figure c.requires.1 in
    (rw (w.0, if-not _, c.unlike32.ensures.0, c.turned32-t.ensures) (search rules), rw (w.1, c.from.ensures, c.from-2.ensures, c.turned32-t.ensures) (search rules))
