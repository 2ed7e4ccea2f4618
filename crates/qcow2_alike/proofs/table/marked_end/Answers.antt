use native.Mathlib.Omega.{arith}
use mathlib.Core.Path.{◌≡◌, refl, sym, ◌∙◌}
use Rattle.qcow2_alike.proofs.Entries.{end_turn, end_stop, end_over, marked_goes, marked-not}
use Rattle.qcow2_alike.proofs.table.marked_end.Goals as goal

pub loop-k-init : goal.loop-k-init
loop-k-init c = refl

pub is_marked-requires : goal.is_marked-requires
is_marked-requires c = let p = c.requires in (p.high, (p.least, p.most))

pub loop-k-preserved : goal.loop-k-preserved
loop-k-preserved c =
    let a = c.args in
    let l = c.loop-k in
    l.invariant ∙ end_turn _ _ _ _ _ _ l.k a.end (omega arith) (marked_goes a.version a.bits a.n a.table.now a.from l.k _ c.load64.ensures c.requires.low c.requires.most (sym c.is_marked.ensures ∙ c.if-not-is_marked.false))

pub returns-then-not-is_marked : goal.returns-then-not-is_marked
returns-then-not-is_marked c =
    let a = c.args in
    let l = c.loop-k in
    sym (l.invariant ∙ end_stop _ _ _ _ _ _ l.k a.end (omega arith) (marked-not a.version a.bits a.n a.table.now a.from l.k _ c.load64.ensures (sym c.is_marked.ensures ∙ c.if-not-is_marked.true)))

pub returns : goal.returns
returns c =
    let l = c.loop-k in
    let e : c.args.end ≡ l.k = omega (arith, c.requires.order) in
    e ∙ sym (l.invariant ∙ end_over _ _ _ _ _ _ l.k _ (omega arith))
