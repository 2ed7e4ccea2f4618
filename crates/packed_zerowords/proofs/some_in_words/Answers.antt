use Rattle.packed.specs.Packed.{zero_at}
use Rattle.packed_zerowords.proofs.Wholes.{some_next}
use Rattle.packed_zerowords.proofs.some_in_words.Goals as goal

pub loop-i-preserved : goal.loop-i-preserved
loop-i-preserved g c = some_next (zero_at g.row.ORDER c.args.part.now) c.loop-i.i c.loop-i.invariant c.zero-found.ensures
