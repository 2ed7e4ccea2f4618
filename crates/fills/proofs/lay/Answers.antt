use native.Mathlib.Omega.{arith}
use Rattle.fills.proofs.Fills.{laid_base, laid_past}
use Rattle.fills.proofs.lay.Goals as goal

pub returns-then-at-b : goal.returns-then-at-b
returns-then-at-b c =
    let a = c.args in
    let b = c.min-b in
    rw (c.zeros.ensures, c.bytes.ensures) (laid_base a.part.now a.base.now a.at b.result a.end b.ensures c.requires.1 c.if-at-b.true)

pub returns : goal.returns
returns c =
    let a = c.args in
    let b = c.min-b in
    rw c.zeros-2.ensures (laid_past a.part.now a.base.now a.at b.result a.end b.ensures c.requires.1 (omega (arith, c.if-at-b.false)))
