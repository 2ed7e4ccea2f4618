use native.Mathlib.Omega.{arith}
use Prim.Native.Nat.{ℕ, ◌+◌, ◌-◌, ◌*◌, ◌^◌}
use mathlib.Core.Path.{◌≡◌, refl, ◌∙◌}
use Rattle.qcow2_range.specs.Slots.{slot}
use Rattle.qcow2_range.proofs.Rows.{turn}
use Rattle.qcow2_range.proofs.easy_end.Goals as goal

pub loop-i-init : goal.loop-i-init
loop-i-init c = λ v at. refl

pub is_easy-requires : goal.is_easy-requires
is_easy-requires c = c.requires.0

pub loop-i-preserved : goal.loop-i-preserved
unfolding slot
loop-i-preserved c =
    let l = c.loop-i in
    let a = c.args in
    λ v at. l.invariant v at ∙ turn (slot v (2 ^ a.bits) a.n at a.table.now) l.i a.end (omega arith) (rw c.load64.ensures at (c.is_easy.ensures c.if-not-is_easy.false v (at + 8 * l.i)))

pub returns-then-not-is_easy : goal.returns-then-not-is_easy
returns-then-not-is_easy c = ((omega arith, omega arith), c.loop-i.invariant)

pub returns : goal.returns
returns c =
    let a = c.args in
    let e : c.loop-i.i ≡ a.end = omega (arith, c.requires.1.0) in
    ((omega (arith, c.requires.1.0), omega arith), λ v at. rw e at (c.loop-i.invariant v at))
