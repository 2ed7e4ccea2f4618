use borrow.Author.Rules.{rules}
use Rattle.std.specs.Prelude.{Result, Err}
use Rattle.std.proofs.lemmas.Grind.{common_steps}
use native.Mathlib.Omega.{arith}
use Prim.Native.Nat.{ℕ}
use mathlib.Core.Path.{◌≡◌, sym, ◌∙◌}
use Rattle.units.specs.declared.Ended.{Ended}
use Rattle.qcow2_spec.proofs.Answered.{answer_err, answer_ok}
use Rattle.qcow2_longer.specs.Extend.{old_blocks, extend_number}
use Rattle.qcow2_taken.specs.Taking.{Held}
use Rattle.qcow2_taken.proofs.Numbers.{supported, held}
use Rattle.qcow2_taken.proofs.Spans.{old_blocks_lem}
use Rattle.qcow2_taken.proofs.Rules.{extend_zero}
use Rattle.qcow2_extend.proofs.Plans.{plan_refused, plan_taken, plan_ready}
use Rattle.qcow2_extend.proofs.extend.Goals as goal
use Rattle.qcow2_extend.proofs.extend.Goals.{After-block_count-from, After-gather-g}

pub returns-in_err-check_extend : goal.returns-in_err-check_extend
returns-in_err-check_extend c =
    let a = c.args in
    let k = c.in_err-check_extend.field-0.0 in
    let e = answer_err (extend_number a.image.now a.old) k (sym c.in_err-check_extend.ensures) in
    let h : ◌≡◌ {A = Result Ended ℕ} c.from_residual.result (Err k) = grind (arith, common_steps) in
    rw h (plan_refused a.image.now a.old a.allowance k (sym e.0) (λ z. e.1 (e.0 ∙ z)))

-- it is accepted
zero : (c : After-gather-g) → extend_number c.args.image.now c.args.old ≡ 0
zero c = answer_ok _ _ (sym c.in_ok-check_extend.ensures)

holds : (c : After-gather-g) → Held c.gather-g.result c.args.image.now
holds c = held _ (extend_zero _ _ (zero c)).0 _ c.gather-g.ensures

starts : (c : After-block_count-from) → c.block_count-from.result ≡ old_blocks c.args.image.now c.args.old
starts c = c.block_count-from.ensures ∙ old_blocks_lem _ _ (holds c.before) _

pub gather-g-requires : goal.gather-g-requires
gather-g-requires c =
    let z : extend_number c.args.image.now c.args.old ≡ 0 = search (rules, answer_ok) in
    supported _ (extend_zero _ _ z).0

pub block_count-from-requires : goal.block_count-from-requires
block_count-from-requires c =
    let d = (goal.at.block_count-from-requires c).After-gather-g in
    let h = holds d in
    ((omega (arith, h.narrow, h.placed.read.low), h.placed.read.high), omega (arith, (extend_zero _ _ (zero d)).1, h.placed.read.short))

pub layout_of-p-requires : goal.layout_of-p-requires
layout_of-p-requires c = let h = holds (goal.at.layout_of-p-requires c).After-gather-g in ((h.placed.read.low, h.placed.read.high), h.narrow)

pub take_in-requires : goal.take_in-requires
take_in-requires c =
    let d = (goal.at.take_in-requires c).After-gather-g in
    plan_ready _ _ (holds d) _ c.layout_of-p.ensures _ _ (starts (goal.at.take_in-requires c).After-block_count-from) (extend_zero _ _ (zero d)).1

pub returns : goal.returns
returns c =
    let d = (goal.at.returns c).After-gather-g in
    rw (plan_taken _ _ (holds d) _ c.layout_of-p.ensures _ _ (zero d) (starts (goal.at.returns c).After-block_count-from))
    c.take_in.ensures
