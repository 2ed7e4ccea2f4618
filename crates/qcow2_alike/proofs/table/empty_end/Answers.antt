use native.Mathlib.Omega.{arith}
use mathlib.Core.Path.{◌≡◌, refl, sym, ◌∙◌}
use Rattle.qcow2_alike.proofs.Entries.{end_turn, end_stop, end_over, empty_goes, empty-not}
use Rattle.qcow2_alike.proofs.table.empty_end.Goals as goal

pub loop-k-init : goal.loop-k-init
loop-k-init c = λ v. refl

pub returns-then-load64-ne0 : goal.returns-then-load64-ne0
returns-then-load64-ne0 c =
    let a = c.args in
    let l = c.loop-k in
    λ v. sym (l.invariant v ∙ end_stop _ _ _ _ _ _ l.k a.end (omega arith) (empty-not v a.bits a.n a.table.now a.from l.k _ c.load64.ensures c.if-load64-ne0.true))

pub loop-k-preserved : goal.loop-k-preserved
loop-k-preserved c =
    let a = c.args in
    let l = c.loop-k in
    λ v. l.invariant v ∙ end_turn _ _ _ _ _ _ l.k a.end (omega arith) (empty_goes v a.bits a.n a.table.now a.from l.k _ c.load64.ensures c.if-load64-ne0.false)

pub returns : goal.returns
returns c =
    let l = c.loop-k in
    let e : c.args.end ≡ l.k = omega (arith, c.requires.order) in
    λ v. e ∙ sym (l.invariant v ∙ end_over _ _ _ _ _ _ l.k _ (omega arith))
