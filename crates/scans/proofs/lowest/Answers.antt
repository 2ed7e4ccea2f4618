use native.Mathlib.Omega.{arith}
use native.Mathlib.Nat.{sub-zero}
use Prim.Native.Nat.{ℕ}
use mathlib.Core.Path.{◌≡◌, sym, ap, ◌∙◌}
use mathlib.Core.Bool.{true, false, or-false}
use Rattle.choice.proofs.Searches.{first_turn, first-none}
use Rattle.tally.specs.States.{flag, flag_at}
use Rattle.scans.proofs.lowest.Goals as goal

pub loop-k-init : goal.loop-k-init
loop-k-init c = rw sub-zero

pub returns-then-flag_or : goal.returns-then-flag_or
returns-then-flag_or c =
    let a = c.args in
    let p = flag_at a.alone a.scratch.now in
    let e : p c.loop-k.k ≡ true = sym (c.flag_or.ensures ∙ or-false _ ∙ ap (λ (x : ℕ). flag a.alone x) c.turned.ensures) ∙ c.if-flag_or.true in
    rw e at (sym (first_turn p c.loop-k.k a.n (omega arith)) ∙ c.loop-k.invariant)

pub loop-k-preserved : goal.loop-k-preserved
loop-k-preserved c =
    let a = c.args in
    let p = flag_at a.alone a.scratch.now in
    let e : p c.loop-k.k ≡ false = sym (c.flag_or.ensures ∙ or-false _ ∙ ap (λ (x : ℕ). flag a.alone x) c.turned.ensures) ∙ c.if-flag_or.false in
    rw e at (sym (first_turn p c.loop-k.k a.n (omega arith)) ∙ c.loop-k.invariant)

pub returns : goal.returns
returns c =
    let a = c.args in
    let e : c.loop-k.k ≡ a.n = omega arith in
    sym e ∙ sym (first-none (flag_at a.alone a.scratch.now) c.loop-k.k a.n (omega arith)) ∙ c.loop-k.invariant
