use native.Mathlib.Omega.{arith}
use mathlib.Core.Path.{◌≡◌, refl, sym, ◌∙◌}
use borrow.Author.Tests.{eqb-true}
use lib.Dec.{eqb}
use Rattle.choice.proofs.Tests.{and-true}
use Rattle.widths.proofs.Cells.{Small}
use Rattle.packed_twos.specs.Twos.{many}
use Rattle.packed_sixteen.proofs.Told.{alike_next}
use Rattle.packed_sixteen.proofs.alike16.Goals as goal

pub loop-j-init : goal.loop-j-init
loop-j-init c = λ e. (refl, refl)

pub turned16-t-requires : goal.turned16-t-requires
turned16-t-requires c = omega (arith, c.requires.0.fits)

pub loop-j-preserved : goal.loop-j-preserved
loop-j-preserved c =
    let B = c.args.block.now in
    let F = c.args.figures.now in
    let sb : Small B = λ i. omega (arith, c.type_inv.block i) in
    let sf : Small F = λ i. omega (arith, c.type_inv.figures i) in
    λ e. let a = and-true c.loop-j.same (eqb c.turned16-t.result c.turned16-f.result) e in alike_next B F sb sf (many F) c.loop-j.j (omega arith) (sym c.turned16-t.ensures ∙ eqb-true _ _ a.1 ∙ c.turned16-f.ensures) (c.loop-j.invariant a.0)

pub returns : goal.returns
returns c e =
    let m : c.loop-j.j ≡ many c.args.figures.now = omega arith in
    let p = c.loop-j.invariant e in
    (sym (rw m at p.0), sym (rw m at p.1))
