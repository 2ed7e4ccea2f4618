use Rattle.packed.proofs.Turned.{turned2}
use Rattle.packed.proofs.turned16.Goals as goal

pub returns : goal.returns
returns c =
    let a = c.args in
    rw (c.from-2.ensures, c.from.ensures) (turned2 a.b.now a.at)
