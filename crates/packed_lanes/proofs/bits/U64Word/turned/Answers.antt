use Rattle.packed.proofs.Turned.{turned8}
use Rattle.packed_lanes.proofs.bits.U64Word.turned.Goals as goal

pub returns : goal.returns
returns c =
    let a = c.args in
    rw (c.from-2.ensures, c.from.ensures, c.turned32-2.ensures, c.turned32.ensures) (turned8 a.b.now a.at)
