use native.Mathlib.Omega.{arith}
use Prim.Native.Nat.{◌*◌}
use mathlib.Core.Path.{refl, sym, ◌∙◌}
use Rattle.tally.proofs.Steps.{step_count, visited-stored}
use Rattle.visits.proofs.Ups.{visited-low}
use Rattle.visits.proofs.count_up.Goals as goal

pub returns-then-low-lt255 : goal.returns-then-low-lt255
returns-then-low-lt255 c =
    let a = c.args in
    visited-low a.scratch.now a.c _ (omega (arith, c.slice_known-1.given (2 * a.c))) c.if-low-lt255.true refl

pub returns : goal.returns
returns c =
    visited-stored 0 _ _ _ _ _ c.requires c.load16-x.ensures (c.more.ensures ∙ sym (step_count _)) c.store16.ensures
