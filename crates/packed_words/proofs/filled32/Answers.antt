use Rattle.std.proofs.Common.{arith, rules, ◌≡◌, ◌+◌, if◌then◌else◌}
use Rattle.packed_filled.specs.Filled.{filled_at}
use Rattle.packed_whole.proofs.Told.{count-more}
use Rattle.packed_words.proofs.Words.{filled-told}
use Rattle.packed_words.proofs.filled32.Goals as goal

pub loop-j-preserved : goal.loop-j-preserved
loop-j-preserved c =
    let B = c.args.block.now in
    let i = c.args.k + c.loop-j.j in
    let w = filled-told B (λ x. omega (arith, c.type_inv.block x)) i in
    let e : c.from-n.result ≡ (if filled_at 5 B i then 1 else 0) = rw (w, c.from-n.ensures, c.turned32.ensures) (search rules) in
    (search rules, omega (arith, e, count-more (filled_at 5 B) c.args.k c.loop-j.j, c.loop-j.invariant.1))

pub returns : goal.returns
returns c =
    let e : c.loop-j.j ≡ c.args.d = omega arith in
    rw e at c.loop-j.invariant.1
