use native.Mathlib.Omega.{arith}
use Prim.Native.Nat.{ℕ, ◌/◌, ◌%◌, ◌≤◌}
use mathlib.Core.List.{List}
use mathlib.Core.Path.{◌≡◌}
use lib.ListN.{length}
use borrow.Author.Tests.{eqb-true}
use Rattle.widths.proofs.Cells.{Small}
use Rattle.packed_twos.specs.Twos.{many, Narrow}
use Rattle.packed_twos.proofs.Seen.{Seen, seen_none, seen_next, seen_narrow}
use Rattle.packed_twos.proofs.lows.narrowed.Goals as goal

pub loop-j-init : goal.loop-j-init
loop-j-init c = seen_none _ _

pub bounds-bytes-j : goal.bounds-bytes-j
bounds-bytes-j c = omega (arith, c.requires.1)

pub loop-j-preserved : goal.loop-j-preserved
loop-j-preserved c =
    let l = c.loop-j in
    seen_next c.args.figures.now l.bytes l.seen l.j c.turned16-t.result (omega (arith, c.requires.1)) c.turned16-t.ensures l.invariant

-- the loop is done, and what was seen says that no figure is above 1
told : (F b : List ℕ) → Small F → (seen j : ℕ) → Seen F b seen j → j ≡ many F → many F ≤ length b → seen % 256 ≡ 0 → seen / 256 ≤ 1 → Narrow F b
told F b small seen j s e h z o = seen_narrow F b small seen (many F) (rw e at s) z o h

pub returns-then-seen-eq0 : goal.returns-then-seen-eq0
returns-then-seen-eq0 c =
    (c.loop-j.auto.bytes, λ _. told c.args.figures.now c.loop-j.bytes (λ i. omega (arith, c.type_inv.figures i)) c.loop-j.seen c.loop-j.j c.loop-j.invariant (omega arith) (omega (arith, c.requires.1)) (omega (arith, c.if-seen-eq0.true)) (omega (arith, c.if-seen-eq0.true)))

pub returns-else-seen-eq0 : goal.returns-else-seen-eq0
returns-else-seen-eq0 c =
    (c.loop-j.auto.bytes, λ e. let k : c.loop-j.seen ≡ 256 = eqb-true c.loop-j.seen 256 e in told c.args.figures.now c.loop-j.bytes (λ i. omega (arith, c.type_inv.figures i)) c.loop-j.seen c.loop-j.j c.loop-j.invariant (omega arith) (omega (arith, c.requires.1)) (omega (arith, k)) (omega (arith, k)))
