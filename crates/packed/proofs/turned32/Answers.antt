use Rattle.packed.proofs.Turned.{turned4}
use Rattle.packed.proofs.turned32.Goals as goal

pub returns : goal.returns
returns c =
    let a = c.args in
    rw (c.from-4.ensures, c.from-3.ensures, c.from-2.ensures, c.from.ensures) (turned4 a.b.now a.at)
