use native.Mathlib.Omega.{arith}
use Prim.Native.Nat.{ℕ, ◌≤◌}
use mathlib.Core.Path.{◌≡◌, ◌∙◌}
use lib.Bits.{and_le_r}
use Rattle.packed_filled.specs.Filled.{filled_in}
use Rattle.packed_filled.proofs.Filling.{joined2, filled1, filled-most}
use Rattle.packed_filled.proofs.filled_in.Goals as goal

-- what the joined bits of x have is what x has, 8 at most
settled : (o q x r : ℕ) → o ≡ q → r ≡ filled_in q x → (r ≡ filled_in o x) × (r ≤ 8)
settled o q x r e h = (rw e h, rw h (filled-most q x))

pub returns-then-order-eq0 : goal.returns-then-order-eq0
returns-then-order-eq0 c =
    settled c.args.order 0 c.args.x c.ones.result c.if-order-eq0.true c.ones.ensures

pub ones-requires-2 : goal.ones-requires-2
ones-requires-2 c = omega (arith, and_le_r (joined2 c.args.x) 85)

pub returns : goal.returns
returns c =
    let e : c.args.order ≡ 1 = omega (arith, c.requires.0) in
    settled c.args.order 1 c.args.x c.ones-2.result e (c.ones-2.ensures ∙ filled1 c.args.x c.requires.1)
