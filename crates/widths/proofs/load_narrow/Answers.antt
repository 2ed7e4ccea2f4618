use borrow.Author.Rules.{rules}
use Prim.Native.Nat.{◌/◌}
use native.Mathlib.Omega.{arith}
use mathlib.Core.Path.{◌≡◌, sym, ◌∙◌}
use lib.ListN.{length, get_or}
use Rattle.widths.proofs.Whole.{narrow_in, number-narrow}
use Rattle.widths.proofs.load_narrow.Goals as goal

pub bits_of-requires : goal.bits_of-requires
bits_of-requires c =
    let k = (narrow_in c.args.order (length c.args.s.now) c.args.at c.requires.1 c.requires.0).1 in
    omega arith

pub returns : goal.returns
returns c =
    let x : c.from.result ≡ get_or c.args.s.now (c.args.at / 8) 0 = search rules in
    rw (x, c.power.ensures.0) at c.bits_of.ensures ∙ sym (number-narrow c.args.order c.requires.1 c.args.s.now c.args.at)
