use native.Mathlib.Nat.{add-zero, zero-mul, sub_self}
use native.Mathlib.Omega.{arith}
use Prim.Native.Nat.{ℕ, ◌*◌, ◌^◌}
use mathlib.Core.Path.{◌≡◌, refl, sym, ◌∙◌}
use Rattle.qcow2_plain.proofs.Plain.{plain-parts}
use Rattle.qcow2_alike.proofs.Entries.{end_turn, end_stop, end_over, host_goes, host_not, host_apart, next_host}
use Rattle.qcow2_alike.proofs.table.host_end.Goals as goal

pub loop-k-init : goal.loop-k-init
loop-k-init c = (rw (sub_self, zero-mul, add-zero), λ v. refl)

-- an entry that is as wanted
wanted : (h w t e : ℕ) → w ≡ 2 * h → t ≡ 2 * e → t ≡ w → e ≡ h
wanted h w t e a b c = omega (arith, a, b, c)

unwanted : (h w t e : ℕ) → w ≡ 2 * h → t ≡ 2 * e → (t ≡ w → ⊥) → e ≡ h → ⊥
unwanted h w t e a b c d = c (omega (arith, a, b, d))

pub returns-then-twice-want : goal.returns-then-twice-want
returns-then-twice-want c =
    let l = c.loop-k in
    let a = c.args in
    let p = c.requires.0 in
    λ v. sym (l.invariant.1 v ∙ end_stop _ _ _ _ _ _ l.k a.end (omega arith) (host_apart v a.bits a.n a.table.now a.from l.k _ c.load64-e.ensures a.h p.low p.most (unwanted _ _ _ _ l.invariant.0 c.twice.ensures c.if-twice-want.true)))

pub overflow_add-want : goal.overflow_add-want
overflow_add-want c =
    let a = c.args in
    let p = plain-parts a.bits a.n c.load64-e.result (sym c.is_plain.ensures ∙ c.if-not-is_plain.false) in
    omega (arith, c.if-twice-want.false, c.twice.ensures, p.inside, c.requires.0.most, c.power-step.ensures.0)

pub loop-k-preserved : goal.loop-k-preserved
loop-k-preserved c =
    let l = c.loop-k in
    let a = c.args in
    let p = c.requires.0 in (
      omega (arith, c.power-step.ensures.0, l.invariant.0, next_host (2 ^ a.bits) a.h a.from l.k l.auto.k),
      λ v. l.invariant.1 v ∙ end_turn _ _ _ _ _ _ l.k a.end (omega arith) (host_goes v a.bits a.n a.table.now a.from l.k _ c.load64-e.ensures a.h p.low p.most (sym c.is_plain.ensures ∙ c.if-not-is_plain.false) (wanted _ _ _ _ l.invariant.0 c.twice.ensures c.if-twice-want.false)),
    )

pub returns-then-not-is_plain : goal.returns-then-not-is_plain
returns-then-not-is_plain c =
    let l = c.loop-k in
    let a = c.args in
    λ v. sym (l.invariant.1 v ∙ end_stop _ _ _ _ _ _ l.k a.end (omega arith) (host_not v a.bits a.n a.table.now a.from l.k _ c.load64-e.ensures a.h (sym c.is_plain.ensures ∙ c.if-not-is_plain.true)))

pub returns : goal.returns
returns c =
    let l = c.loop-k in
    let e : c.args.end ≡ l.k = omega (arith, c.requires.0.order) in
    λ v. e ∙ sym (l.invariant.1 v ∙ end_over _ _ _ _ _ _ l.k _ (omega arith))
