use Rattle.std.specs.Prelude.{if◌then◌else◌}
use borrow.Author.Rules.{rules}
use native.Mathlib.Nat.{sub-zero, zero-add}
use native.Mathlib.Omega.{arith}
use Prim.Native.Nat.{◌-◌, ◌*◌}
use mathlib.Core.Path.{◌≡◌, sym, ◌∙◌}
use Rattle.choice.proofs.Searches.{count_turn, count_none}
use Rattle.widths.proofs.Cells.{number-16}
use Rattle.packed.specs.Packed.{packed, zero_at}
use Rattle.qcow2_freecount.proofs.Counts.{byte_if}
use Rattle.qcow2_freecount.proofs.zeros_in.Goals as goal

pub loop-j-init : goal.loop-j-init
loop-j-init c = (search rules, rw (sub-zero, zero-add))

pub loop-j-preserved : goal.loop-j-preserved
unfolding zero_at packed
loop-j-preserved c =
    let a = c.args in
    let T = a.block.now in
    let j = c.loop-j.j in
    let r = c.load16.ensures ∙ sym (number-16 T (16 * j) (2 * j) (omega arith) (λ x. omega (arith, c.type_inv.block x))) in
    let e : c.from-n.result ≡ (if zero_at 4 T j then 1 else 0) = (rw r at c.from-n.ensures) ∙ byte_if (zero_at 4 T j) in
    let f = count_turn (zero_at 4 T) j a.m (omega arith) in
    (search rules, omega (arith, e, f, c.loop-j.invariant.1))

pub returns : goal.returns
returns c =
    let a = c.args in
    omega (arith, count_none (zero_at 4 a.block.now) c.loop-j.j a.m (omega arith), c.loop-j.invariant.1)
