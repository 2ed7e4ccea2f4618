use Rattle.std.specs.Prelude.{Ok, Err}
use mathlib.Core.Path.{◌≡◌, sym, ◌∙◌, ap}
use Rattle.std.proofs.lemmas.Grind.{common_steps}
use native.Mathlib.Omega.{arith}
use Rattle.qcow2_spec.specs.Guest.{way_gives, located}
use Rattle.qcow2_guest.proofs.Ready.{reached}
use Rattle.qcow2_guest.proofs.Steps.{located-at}
use Rattle.qcow2_guest.proofs.locate.Goals as goal

pub way_to-requires : goal.way_to-requires
way_to-requires c =
    let s = c.args.image.now in
    (c.requires.0, rw (c.quotient.ensures.0, c.requires.0.is-cluster) (reached c.args.g s c.requires.0 c.args.x c.requires.1))

pub returns-in_err-w : goal.returns-in_err-w
unfolding way_gives
returns-in_err-w c =
    let s = c.args.image.now in
    let h : Err c.in_err-w.field-0.0 ≡ located s c.args.g.root c.args.x = located-at c.args.g s c.requires.0 c.args.x _ _ _ c.quotient.ensures.0 c.rest-o.ensures.0 (sym c.in_err-w.ensures) in
    grind (arith, common_steps)

pub returns-in-NoTable : goal.returns-in-NoTable
unfolding way_gives
returns-in-NoTable c =
    located-at c.args.g c.args.image.now c.requires.0 c.args.x _ _ _ c.quotient.ensures.0 c.rest-o.ensures.0
    (sym c.in_ok-w.ensures ∙ ap Ok c.in-NoTable.is)

pub returns-in-Slot : goal.returns-in-Slot
unfolding way_gives
returns-in-Slot c =
    ap Ok c.gives.ensures
    ∙ located-at c.args.g c.args.image.now c.requires.0 c.args.x _ _ _ c.quotient.ensures.0 c.rest-o.ensures.0
    (sym c.in_ok-w.ensures ∙ ap Ok c.in-Slot.is)
