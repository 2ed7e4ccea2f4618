use borrow.Author.Tests.{eq-eqb, ne_eqb}
use Prim.Native.Nat.{◌/◌, ◌^◌}
use mathlib.Core.Path.{◌≡◌}
use mathlib.Core.Bool.{Bool, true, false, ◌&&◌}
use mathlib.Core.Path.{refl}
use Rattle.qcow2_spec.specs.Entries.{alone, common}
use Rattle.qcow2_entry.proofs.is_common.Goals as goal

and_none : (b : Bool) → (b && false) ≡ false
and_none true = refl
and_none false = refl

and-all : (b : Bool) → (b && true) ≡ b
and-all true = refl
and-all false = refl

pub returns-then-e-eq1 : goal.returns-then-e-eq1
unfolding common alone
returns-then-e-eq1 c = rw (eq-eqb (c.args.e / 2 ^ 63) 1 c.if-e-eq1.true, and_none)

pub returns : goal.returns
unfolding common alone
returns c = rw (ne_eqb (c.args.e / 2 ^ 63) 1 c.if-e-eq1.false, and-all, c.place_of.ensures.0)
