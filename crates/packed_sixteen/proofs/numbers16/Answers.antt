use Rattle.packed_sixteen.proofs.numbers16.Goals as goal

pub returns-then-alike16 : goal.returns-then-alike16
returns-then-alike16 c = c.alike16.ensures c.if-alike16.true
