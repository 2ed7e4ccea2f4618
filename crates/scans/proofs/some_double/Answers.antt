use native.Mathlib.Omega.{arith}
use mathlib.Core.Path.{◌≡◌, refl, sym}
use mathlib.Core.Bool.{Bool, true, false, not}
use borrow.Author.Tests.{eqb-true}
use Rattle.scans.proofs.Flags.{seen_next, seen_single}
use Rattle.scans.proofs.some_double.Goals as goal

pub loop-k-init : goal.loop-k-init
loop-k-init c = λ i h. absurd (omega arith)

pub loop-k-preserved : goal.loop-k-preserved
loop-k-preserved c =
    let a = c.args in
    seen_next a.scratch.now c.loop-k.seen c.loop-k.k _ (omega arith) c.turned-seen.ensures c.loop-k.invariant

is-true : (t : Bool) → not t ≡ false → t ≡ true
is-true true h = refl
is-true false h = sym h

pub returns-then-seen-ne0 : goal.returns-then-seen-ne0
returns-then-seen-ne0 c h =
    let e : c.loop-k.seen ≡ 256 = eqb-true _ _ (is-true _ h) in
    let k : c.loop-k.k ≡ c.args.n = omega arith in
    rw k at (seen_single c.args.scratch.now c.loop-k.seen c.loop-k.k c.loop-k.invariant (omega arith) (omega arith))

pub returns-else-seen-ne0 : goal.returns-else-seen-ne0
returns-else-seen-ne0 c h =
    let e : c.loop-k.seen ≡ 0 = c.if-seen-ne0.false in
    let k : c.loop-k.k ≡ c.args.n = omega arith in
    rw k at (seen_single c.args.scratch.now c.loop-k.seen c.loop-k.k c.loop-k.invariant (omega arith) (omega arith))
