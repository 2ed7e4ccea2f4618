use borrow.Author.Tests.{le-leb}
use native.Mathlib.Omega.{arith}
use mathlib.Core.Path.{refl, ap}
use Rattle.units.specs.Plan.{units, ended}
use Rattle.qcow2_clear.proofs.Clears.{clear_idle, clear-stored}
use Rattle.qcow2_extend.proofs.Found.{all-some, all_none}
use Rattle.qcow2_extend.proofs.storing.make_from.Goals as goal

pub note-n-requires : goal.note-n-requires
note-n-requires c = let p = c.requires in ((omega (arith, p.0.fits.entered, p.0.earlier), omega (arith, p.0.fits.short)), omega (arith, p.1))

pub returns-then-n-eq0 : goal.returns-then-n-eq0
unfolding ended
returns-then-n-eq0 c =
    let a = c.args in
    let none = all_none a.p _ _ _ _ _ c.note-n.ensures c.requires.0.earlier c.requires.0.fits.owned c.if-n-eq0.true in
    clear_idle a.image.now a.allowance _ _ (ap units none) (rw (le-leb 0 a.allowance (omega arith)))

pub store-requires : goal.store-requires
store-requires c =
    let p = c.requires in
    (p.0, (c.note-n.ensures, omega (arith, p.1, c.note-n.auto), omega (arith, c.if-n-eq0.false)))

pub returns : goal.returns
returns c =
    let a = c.args in
    let some = all-some a.p _ _ _ _ _ c.note-n.ensures c.requires.0.earlier c.requires.0.fits.owned (omega (arith, c.if-n-eq0.false)) in
    clear-stored a.image.now a.allowance _ _ _ _ refl some c.store.ensures
