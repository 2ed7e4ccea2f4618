use Rattle.std.specs.Prelude.{Ok, Err}
use Rattle.std.proofs.lemmas.Grind.{common_steps}
use native.Mathlib.Omega.{arith}
use mathlib.Core.Path.{◌≡◌, sym, ap, ◌∙◌}
use Rattle.qcow2_spec.specs.Guest.{translate}
use Rattle.qcow2_spec.specs.Header.{some_lent}
use Rattle.qcow2_spec.specs.Opened.{opened}
use Rattle.qcow2.proofs.Refusals.{translate-refused}
use Rattle.qcow2.proofs.Taken.{active, translate-taken}
use Rattle.qcow2.proofs.translate.Goals as goal

pub translated-requires : goal.translated-requires
unfolding some_lent
translated-requires c =
    let a = c.args in
    let s = a.image.now in
    let b = a.backing.now in
    let e : opened (some_lent b) s ≡ Ok c.in_ok-geometry.geometry = sym c.in_ok-geometry.ensures in
    active b s c.in_ok-geometry.geometry e

pub returns-in_err-geometry : goal.returns-in_err-geometry
unfolding some_lent
returns-in_err-geometry c =
    let a = c.args in
    let s = a.image.now in
    let b = a.backing.now in
    let k = c.in_err-geometry.field-0.0 in
    let e : opened (some_lent b) s ≡ Err k = sym c.in_err-geometry.ensures in
    let h : Err k ≡ translate b s a.x = sym (translate-refused b s k e a.x) in
    grind (arith, common_steps)

pub returns : goal.returns
unfolding some_lent
returns c =
    let a = c.args in
    let s = a.image.now in
    let b = a.backing.now in
    let g = c.in_ok-geometry.geometry in
    let e : opened (some_lent b) s ≡ Ok g = sym c.in_ok-geometry.ensures in
    c.translated.ensures ∙ translate-taken b s g e a.x
