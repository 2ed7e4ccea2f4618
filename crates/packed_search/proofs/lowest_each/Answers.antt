use native.Mathlib.Omega.{arith}
use Prim.Native.Nat.{ℕ, ◌+◌, ◌-◌, ◌*◌, ◌^◌, ◌<◌}
use mathlib.Core.Path.{◌≡◌, sym, ap, ◌∙◌}
use mathlib.Core.Bool.{true, false}
use borrow.Author.Tests.{eq-eqb, ne_eqb}
use Rattle.choice.specs.Pick.{first}
use Rattle.choice.proofs.Searches.{first_turn, first-none}
use Rattle.packed.specs.Packed.{packed, zero_at}
use Rattle.packed.proofs.Laws.{lie_inside, lie_place}
use Rattle.packed_search.proofs.lowest_each.Goals as goal

pub overflow_mul-width : goal.overflow_mul-width
overflow_mul-width c =
    let k = c.loop-k.k in
    let e : c.power-width.result * k ≡ 2 ^ c.args.order * k = ap (λ (x : ℕ). x * k) c.power-width.ensures.0 in
    omega (arith, lie_place c.requires.0 k (omega arith))

pub load-requires : goal.load-requires
load-requires c =
    rw c.power-width.ensures.0 (lie_inside c.requires.0 c.loop-k.k c.loop-k-test.true)

pub returns-then-load-eq0 : goal.returns-then-load-eq0
unfolding zero_at packed
returns-then-load-eq0 c =
    let a = c.args in
    let l = a.block.now in
    let k = c.loop-k.k in
    let r = rw c.power-width.ensures.0 at c.load.ensures in
    let e : zero_at a.order l k ≡ true = eq-eqb _ _ (sym r ∙ c.if-load-eq0.true) in
    let f : first (zero_at a.order l) k (a.end - k) ≡ k = rw (first_turn (zero_at a.order l) k a.end (omega arith), e) in
    sym (c.loop-k.invariant ∙ f)

pub loop-k-preserved : goal.loop-k-preserved
unfolding zero_at packed
loop-k-preserved c =
    let a = c.args in
    let l = a.block.now in
    let k = c.loop-k.k in
    let r = rw c.power-width.ensures.0 at c.load.ensures in
    let n : 0 < c.load.result = omega arith in
    let e : zero_at a.order l k ≡ false = ne_eqb _ _ (λ q. let z : c.load.result ≡ 0 = r ∙ q in omega arith) in
    let f : first (zero_at a.order l) k (a.end - k) ≡ first (zero_at a.order l) (k + 1) (a.end - (k + 1)) = rw (first_turn (zero_at a.order l) k a.end (omega arith), e) in
    c.loop-k.invariant ∙ f

pub returns : goal.returns
returns c =
    let a = c.args in
    let e : a.end ≡ c.loop-k.k = omega arith in
    e ∙ sym (c.loop-k.invariant ∙ first-none (zero_at a.order a.block.now) c.loop-k.k a.end (omega arith))
