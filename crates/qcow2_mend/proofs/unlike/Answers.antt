use borrow.Author.Rules.{rules}
use native.Mathlib.Omega.{arith}
use Prim.Native.Nat.{ℕ, ◌+◌, ◌-◌, ◌/◌}
use mathlib.Core.Path.{◌≡◌, ◌∙◌}
use lib.ListN.{length}
use Rattle.packed_twos.specs.Twos.{many, figures_in}
use Rattle.qcow2_setcount.proofs.Fixes.{fixes-most}
use Rattle.qcow2_mend.proofs.Wholes.{unlike_units}
use Rattle.qcow2_mend.proofs.unlike.Goals as goal

pub compare-c-requires : goal.compare-c-requires
compare-c-requires c = (search rules, c.requires.1.1)

pub returns : goal.returns
returns c =
    let a = c.args in
    let l = a.image.now in
    let fs = figures_in a.refs.now in
    let m = many a.refs.now in
    let C : ℕ = length l - a.at / 8 in
    let q : a.at / 8 + C ≡ length l = omega (arith, c.requires.0.0.fits) in
    let e = c.compare-c.ensures.0 ∙ unlike_units a.order l a.at C fs c.requires.1.0 m (rw q c.requires.0.0) in
    (e, omega (arith, e, fixes-most a.order l a.at fs m))
