use borrow.Author.Tests.{ltb-false, eqb-true, not-false}
use native.Mathlib.Omega.{arith}
use Prim.Native.Nat.{◌%◌}
use mathlib.Core.Path.{◌≡◌, sym, ◌∙◌}
use mathlib.Core.Bool.{true, false, not}
use lib.Dec.{eqb}
use lib.ListN.{length}
use Rattle.choice.proofs.Tests.{or-false}
use Rattle.qcow2_spec.specs.Header.{cluster_size}
use Rattle.qcow2_limits.specs.Limits.{odd_length}
use Rattle.qcow2_header.specs.Chain.{from5}
use Rattle.qcow2_header.proofs.Laws.{whole_room}
use Rattle.qcow2_header.proofs.judge_length.Goals as goal

pub returns-then-odd_length : goal.returns-then-odd_length
unfolding from5
returns-then-odd_length c = let e : odd_length c.args.image.now ≡ true = cc in rw e cc

pub judge_extras-requires : goal.judge_extras-requires
unfolding odd_length
judge_extras-requires c =
    let s = c.args.image.now in
    let e : odd_length s ≡ false = sym c.odd_length.ensures ∙ c.if-odd_length.false in
    let k = c.requires in
    let t = or-false (not (eqb (length s % cluster_size s) 0)) _ e in
    record {
      known = k;
      short = ltb-false _ _ t.1;
      room = whole_room (length s) (cluster_size s) (omega arith) (eqb-true _ _ (not-false _ t.0));
    }

pub returns : goal.returns
unfolding from5
returns c = rw (← c.odd_length.ensures, c.if-odd_length.false) c.judge_extras.ensures
