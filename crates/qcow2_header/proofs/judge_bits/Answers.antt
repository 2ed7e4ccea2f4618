use borrow.Author.Tests.{ltb-false}
use mathlib.Core.Path.{◌≡◌, sym, ◌∙◌}
use mathlib.Core.Bool.{false, ◌||◌}
use lib.Dec.{ltb}
use Rattle.choice.proofs.Tests.{or-false}
use Rattle.qcow2_spec.specs.Header.{least_bits, most_bits, cluster_bits}
use Rattle.qcow2_header.specs.Chain.{from4}
use Rattle.qcow2_header.proofs.judge_bits.Goals as goal

pub returns-then-wrong_bits : goal.returns-then-wrong_bits
unfolding from4
returns-then-wrong_bits c = rw (← c.load32.ensures, ← c.wrong_bits.ensures, c.if-wrong_bits.true) cc

pub judge_length-requires : goal.judge_length-requires
judge_length-requires c =
    let b = cluster_bits c.args.image.now in
    let e : (ltb b least_bits || ltb most_bits b) ≡ false = rw c.load32.ensures at (sym c.wrong_bits.ensures ∙ c.if-wrong_bits.false) in
    let t = or-false (ltb b least_bits) _ e in
    record { long = c.requires; low = ltb-false _ _ t.0; high = ltb-false _ _ t.1 }

pub returns : goal.returns
unfolding from4
returns c =
    rw (← c.load32.ensures, ← c.wrong_bits.ensures, c.if-wrong_bits.false) c.judge_length.ensures
