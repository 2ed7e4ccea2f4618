use Rattle.std.specs.Prelude.{if◌then◌else◌}
use borrow.Author.Rules.{rules}
use native.Mathlib.Nat.{sub-zero, zero-add, mul-le-mul_left}
use native.Mathlib.Omega.{arith}
use Prim.Native.Nat.{ℕ, ◌-◌, ◌*◌, ◌^◌, ◌≤◌}
use mathlib.Core.Path.{◌≡◌, ap, ◌∙◌}
use Rattle.qcow2_freecount.proofs.Counts.{byte_if}
use lib.ListN.{length}
use Rattle.choice.proofs.Searches.{count_turn, count_none}
use Rattle.packed.specs.Packed.{packed, zero_at}
use Rattle.widths.proofs.Cells.{inside-first}
use Rattle.qcow2_freecount.proofs.zeros_packed.Goals as goal

pub loop-j-init : goal.loop-j-init
loop-j-init c = (search rules, rw (sub-zero, zero-add))

pub overflow_mul-width : goal.overflow_mul-width
overflow_mul-width c =
    let w = 2 ^ c.args.order in
    let j = c.loop-j.j in
    let e : c.power-width.result * j ≡ w * j = ap (λ (x : ℕ). x * j) c.power-width.ensures.0 in
    let h : j ≤ c.args.m = omega arith in
    omega (arith, mul-le-mul_left w h, c.requires)

pub load-requires : goal.load-requires
load-requires c =
    rw c.power-width.ensures.0 (inside-first c.args.order (length c.args.block.now) c.args.m c.loop-j.j c.requires.0.0 c.requires.0.1 (omega arith))

pub loop-j-preserved : goal.loop-j-preserved
unfolding zero_at packed
loop-j-preserved c =
    let a = c.args in
    let T = a.block.now in
    let j = c.loop-j.j in
    let r = rw c.power-width.ensures.0 at c.load.ensures in
    let e : c.from-n.result ≡ (if zero_at a.order T j then 1 else 0) = (rw r at c.from-n.ensures) ∙ byte_if (zero_at a.order T j) in
    let f = count_turn (zero_at a.order T) j a.m (omega arith) in
    (search rules, omega (arith, e, f, c.loop-j.invariant.1))

pub returns : goal.returns
returns c =
    let a = c.args in
    omega (arith, count_none (zero_at a.order a.block.now) c.loop-j.j a.m (omega arith), c.loop-j.invariant.1)
