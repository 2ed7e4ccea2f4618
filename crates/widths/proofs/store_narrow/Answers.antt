use borrow.Author.Rules.{rules}
use Prim.Native.Nat.{◌/◌}
use native.Mathlib.Omega.{arith}
use mathlib.Core.Path.{◌≡◌, sym}
use lib.ListN.{length, get_or}
use Rattle.widths.proofs.Whole.{narrow_in, stored-narrow}
use Rattle.widths.proofs.store_narrow.Goals as goal

pub merged-requires : goal.merged-requires
merged-requires c =
    let k = (narrow_in c.args.order (length c.args.s.now) c.args.at c.requires.1 c.requires.0).1 in
    (omega arith, search rules)

pub returns : goal.returns
returns c =
    let y : c.from-old.result ≡ get_or c.args.s.now (c.args.at / 8) 0 = search rules in
    let e = rw (y, c.power.ensures.0) at c.merged.ensures.0 in
    rw e (sym (stored-narrow c.args.order c.requires.1 c.args.s.now c.args.at c.args.x (rw e at c.merged.ensures.1)))
