use native.Mathlib.Omega.{arith}
use Prim.Native.Nat.{ℕ, ◌+◌}
use mathlib.Core.Path.{◌≡◌, refl}
use mathlib.Core.Bool.{Bool, true, false}
use mathlib.Core.List.{List}
use borrow.Author.Tests.{eqb-true, eqb-false}
use lib.Dec.{eqb}
use Rattle.tally.specs.States.{twos}
use Rattle.qcow2_spec.specs.Check.{Seek, wrong_marks}
use Rattle.qcow2_refs.specs.Walks.{row_at}
use Rattle.qcow2_marks.specs.Marks.{unharmed, UnharmedTo}
use Rattle.qcow2_marks.proofs.rows_right.Goals as goal

pub loop-i-init : goal.loop-i-init
loop-i-init c = λ k l. absurd (omega arith)

-- one entry more
more : (s : List ℕ) (w : Seek) (t i : ℕ) → UnharmedTo s w t i → unharmed s w (row_at s t i) ≡ true → UnharmedTo s w t (i + 1)
more s w t i f h k l = go (eqb k i) refl
  where
    go : (b : Bool) → eqb k i ≡ b → unharmed s w (row_at s t k) ≡ true
    go true e = rw (eqb-true k i e) h
    go false e = let n = eqb-false k i e in f k (omega arith)

pub row_right-requires : goal.row_right-requires
row_right-requires c =
    (c.requires.0, (c.loop-i-test.true, c.requires.1 c.loop-i.i c.loop-i-test.true))

pub loop-i-preserved : goal.loop-i-preserved
loop-i-preserved c =
    let a = c.args in
    let s = a.image.now in
    more s (wrong_marks s (twos a.scratch.now 0 a.g.clusters)) a.g.root c.loop-i.i c.loop-i.invariant (c.row_right.ensures c.if-not-row_right.false)

pub returns-then-not-row_right : goal.returns-then-not-row_right
returns-then-not-row_right c = (omega arith, c.loop-i.invariant)

pub returns : goal.returns
returns c =
    let e : c.loop-i.i ≡ c.args.g.l1size = omega arith in
    (omega arith, rw e at c.loop-i.invariant)
