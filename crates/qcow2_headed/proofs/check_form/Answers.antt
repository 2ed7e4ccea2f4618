use borrow.Author.Tests.{ltb-false, eqb-true, not-false}
use native.Mathlib.Omega.{arith}
use Prim.Native.Nat.{◌%◌}
use mathlib.Core.Path.{◌≡◌, sym, ◌∙◌}
use mathlib.Core.Bool.{false, not}
use lib.Dec.{eqb}
use lib.ListN.{length}
use Rattle.choice.proofs.Tests.{or-false}
use Rattle.qcow2_spec.specs.Header.{cluster_size}
use Rattle.qcow2_spec.proofs.Facts.{order_small}
use Rattle.qcow2_limits.specs.Limits.{odd_length}
use Rattle.qcow2_header.proofs.Laws.{whole_room}
use Rattle.qcow2_headed.specs.Numbers.{form_number}
use Rattle.qcow2_headed.proofs.check_form.Goals as goal

pub returns-then-odd_length : goal.returns-then-odd_length
unfolding form_number
returns-then-odd_length c = rw (← c.odd_length.ensures, c.if-odd_length.true) cc

pub returns-then-has_extras : goal.returns-then-has_extras
unfolding form_number
returns-then-has_extras c = rw (← c.odd_length.ensures, c.if-odd_length.false, ← c.has_extras.ensures, c.if-has_extras.true) cc

pub returns-then-has_features : goal.returns-then-has_features
unfolding form_number
returns-then-has_features c = rw (← c.odd_length.ensures, c.if-odd_length.false, ← c.has_extras.ensures, c.if-has_extras.false, ← c.has_features.ensures, c.if-has_features.true) cc

pub gather-g-requires : goal.gather-g-requires
unfolding odd_length
gather-g-requires c =
    let s = c.args.image.now in
    let e : odd_length s ≡ false = sym c.odd_length.ensures ∙ c.if-odd_length.false in
    let t = or-false (not (eqb (length s % cluster_size s) 0)) _ e in
    let k = c.requires in
    record {
      sized = record {
        known = k;
        short = ltb-false _ _ t.1;
        room = whole_room (length s) (cluster_size s) (omega (arith, k.long)) (eqb-true _ _ (not-false _ t.0));
      };
      narrow = order_small s (sym c.has_extras.ensures ∙ c.if-has_extras.false);
    }

pub returns : goal.returns
unfolding form_number
returns c =
    rw (← c.odd_length.ensures, c.if-odd_length.false, ← c.has_extras.ensures, c.if-has_extras.false, ← c.has_features.ensures, c.if-has_features.false)
    c.check_places.ensures
