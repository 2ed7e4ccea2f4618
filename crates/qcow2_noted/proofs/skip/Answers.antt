use borrow.Author.Tests.{ne_eqb}
use native.Mathlib.Omega.{arith}
use Prim.Native.Nat.{◌+◌, ◌*◌}
use mathlib.Core.Path.{◌≡◌, refl, ◌∙◌}
use mathlib.Core.Bool.{false}
use lib.Dec.{eqb}
use Rattle.choice.proofs.Searches.{first_turn}
use Rattle.endian.specs.Big.{be64}
use Rattle.qcow2_noted.specs.Noting.{unmade}
use Rattle.qcow2_noted.proofs.skip.Goals as goal

pub loop-i-init : goal.loop-i-init
loop-i-init c = refl

pub returns-then-load64-eq0 : goal.returns-then-load64-eq0
returns-then-load64-eq0 c = (omega arith, c.loop-i.invariant)

pub loop-i-preserved : goal.loop-i-preserved
loop-i-preserved c =
    let a = c.args in
    let l = c.loop-i in
    let p = unmade a.image.now a.table in
    let z : eqb (be64 a.image.now (a.table + 8 * l.i)) 0 ≡ false = ne_eqb (be64 a.image.now (a.table + 8 * l.i)) 0 (λ e. omega (arith, c.load64.ensures)) in
    l.invariant ∙ first_turn p l.i a.end (omega arith) ∙ rw z refl

pub returns : goal.returns
returns c =
    let e : c.loop-i.i ≡ c.args.end = omega (arith, c.requires.1) in
    (omega arith, rw e at c.loop-i.invariant)
