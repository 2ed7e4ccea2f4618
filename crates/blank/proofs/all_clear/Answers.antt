use borrow.Author.Rules.{rules}
use native.Mathlib.Omega.{arith}
use Prim.Native.Nat.{ℕ, ◌+◌, ◌-◌}
use mathlib.Core.Path.{◌≡◌, refl, sym, ◌∙◌}
use Rattle.endian.proofs.Entries.{part-rest}
use Rattle.blank.proofs.Zeros.{group-next, group_stop}
use Rattle.blank.proofs.all_clear.Goals as goal

pub loop-at-init : goal.loop-at-init
loop-at-init c = (search rules, refl)

-- the group's length as the code has it
group : (at : ℕ) → at + 512 - at ≡ 512
group at = omega arith

pub loop-at-preserved : goal.loop-at-preserved
loop-at-preserved c =
    let l = c.loop-at in
    let t = c.args.part.now in
    (search rules, group-next t l.at 512 l.invariant.1 (rw (group l.at) at (sym c.all_zeros.ensures ∙ c.if-all_zeros.true)))

pub returns-else-all_zeros : goal.returns-else-all_zeros
returns-else-all_zeros c =
    let l = c.loop-at in
    let t = c.args.part.now in
    group_stop t l.at 512 l.invariant.1 (rw (group l.at) at (sym c.all_zeros.ensures ∙ c.if-all_zeros.false))

pub returns : goal.returns
returns c = rw part-rest at c.all_zeros-2.ensures ∙ c.loop-at.invariant.1
