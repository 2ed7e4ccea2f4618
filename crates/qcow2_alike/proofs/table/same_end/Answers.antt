use native.Mathlib.Omega.{arith}
use Prim.Native.Nat.{◌^◌}
use mathlib.Core.Path.{◌≡◌, refl, sym, ◌∙◌}
use mathlib.Core.Bool.{true, false}
use Rattle.qcow2_alike.specs.Alike.{entry_goes}
use Rattle.qcow2_alike.proofs.Entries.{end_turn, end_stop, end_over, still_goes}
use Rattle.qcow2_alike.proofs.table.same_end.Goals as goal

pub loop-k-init : goal.loop-k-init
loop-k-init c = refl

pub overflow_mul-k : goal.overflow_mul-k
overflow_mul-k c = omega (arith, c.requires.0.inside)

pub load64-e-requires : goal.load64-e-requires
load64-e-requires c = omega (arith, c.requires.0.inside)

pub found-requires : goal.found-requires
found-requires c = let p = c.requires.0 in (((p.low, p.high), (p.least, p.most)), omega arith)

pub loop-k-preserved : goal.loop-k-preserved
loop-k-preserved c =
    let a = c.args in
    let l = c.loop-k in
    let e : entry_goes a.version (2 ^ a.bits) a.n a.table.now a.f.now a.from l.k ≡ true =
    sym (still_goes a.version a.bits a.n a.table.now a.from l.k _ c.load64-e.ensures a.f.now c.requires.1) ∙ rw (← c.found.ensures) (sym c.same.ensures ∙ c.if-not-same.false) in
    l.invariant ∙ end_turn _ _ _ _ _ _ l.k a.end (omega arith) e

pub returns-then-not-same : goal.returns-then-not-same
returns-then-not-same c =
    let a = c.args in
    let l = c.loop-k in
    let e : entry_goes a.version (2 ^ a.bits) a.n a.table.now a.f.now a.from l.k ≡ false =
    sym (still_goes a.version a.bits a.n a.table.now a.from l.k _ c.load64-e.ensures a.f.now c.requires.1) ∙ rw (← c.found.ensures) (sym c.same.ensures ∙ c.if-not-same.true) in
    sym (l.invariant ∙ end_stop _ _ _ _ _ _ l.k a.end (omega arith) e)

pub returns : goal.returns
returns c =
    let l = c.loop-k in
    let e : c.args.end ≡ l.k = omega (arith, c.requires.0.order) in
    e ∙ sym (l.invariant ∙ end_over _ _ _ _ _ _ l.k _ (omega arith))
