use native.Mathlib.Omega.{arith}
use Prim.Native.Nat.{◌+◌, ◌-◌, ◌^◌, ◌≤◌}
use mathlib.Core.Path.{◌≡◌, refl, sym, ◌∙◌}
use mathlib.Core.Bool.{false}
use Rattle.packed.specs.Packed.{zero_at}
use Rattle.packed.proofs.Laws.{lie_few}
use Rattle.packed_search.proofs.Groups.{lie_fewer, group-next, group_missed}
use Rattle.packed_search.proofs.pass.Goals as goal

pub overflow_sub-order : goal.overflow_sub-order
overflow_sub-order g c = omega (arith, c.requires.0.0.0.few)

pub power-step-requires : goal.power-step-requires
power-step-requires g c = omega (arith, c.requires.1.1)

pub loop-k-init : goal.loop-k-init
loop-k-init g c = (c.requires.0.0.1, (c.requires.0.1, refl))

pub zero_near-requires : goal.zero_near-requires
zero_near-requires g c =
    let t = c.loop-k in
    let e = c.power-step.ensures.0 in
    ((lie_fewer c.requires.0.0.0 (t.k + 2 ^ (g.row.E + 3 - c.args.order)) (omega (arith, e, t.invariant.0, c.loop-k-test.true)), t.invariant.1.0), c.requires.1)

pub returns-then-zero_near : goal.returns-then-zero_near
returns-then-zero_near g c = let t = c.loop-k in (t.invariant.0, t.invariant.1.1)

pub overflow_add-k : goal.overflow_add-k
overflow_add-k g c = omega (arith, lie_few c.requires.0.0.0, c.loop-k-test.true)

pub loop-k-preserved : goal.loop-k-preserved
loop-k-preserved g c =
    let t = c.loop-k in
    let a = c.args in
    let p = c.power-step in
    let h : t.k + p.result ≤ a.end = omega (arith, t.invariant.0, c.loop-k-test.true) in
    let z : c.zero_near.result ≡ false = cc in
    let m = group_missed (zero_at a.order a.block.now) t.k (2 ^ (g.row.E + 3 - a.order)) p.result a.end p.ensures.0 h (sym c.zero_near.ensures ∙ z) in
    (h, (group-next a.order g.row.E t.k p.result (omega (arith, c.requires.0.0.0.few, c.requires.1.0)) p.ensures.0 t.invariant.1.0, t.invariant.1.1 ∙ m))

pub returns : goal.returns
returns g c = let t = c.loop-k in (t.invariant.0, t.invariant.1.1)
