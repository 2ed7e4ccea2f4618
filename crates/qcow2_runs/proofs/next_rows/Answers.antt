use native.Mathlib.Omega.{arith}
use Prim.Native.Nat.{◌+◌, ◌-◌}
use mathlib.Core.Path.{◌≡◌, refl, sym, ◌∙◌}
use Rattle.qcow2_runs.proofs.Stretches.{row-ahead, row_stop, row-some, run-next, run_stops, run-over}
use Rattle.qcow2_runs.proofs.next_rows.Goals as goal

pub loop-i-init : goal.loop-i-init
loop-i-init c = let p = c.requires.1 in (p.0.0, (p.1, refl))

pub overflow_add-x : goal.overflow_add-x
overflow_add-x c = omega (arith, c.requires.1.0.1, c.requires.0.0.far)

pub row_left-m-requires : goal.row_left-m-requires
row_left-m-requires c = let o = c.requires.0.0 in (omega (arith, o.low), o.high)

pub in_next_row-r-requires : goal.in_next_row-r-requires
in_next_row-r-requires c =
    let a = c.args in
    let l = c.loop-i in
    let t = c.loop-i-test.true in
    (c.requires.0, row-ahead a.g a.image.now a.x l.i a.len _ c.row_left-m.ensures t c.requires.1.0.1 (l.invariant.1.0 t))

pub overflow_add-result : goal.overflow_add-result
overflow_add-result c = omega (arith, c.in_next_row-r.ensures.most, c.row_left-m.ensures)

pub returns-then-r-m : goal.returns-then-r-m
returns-then-r-m c =
    let a = c.args in
    let l = c.loop-i in
    let u = c.in_next_row-r.ensures in
    let m = c.row_left-m.ensures in
    sym (l.invariant.1.1 ∙ run-next a.image.now a.g.root a.x a.len l.i _ _ (omega (arith, m)) u ∙ run_stops a.image.now a.g.root a.x a.len _ (omega (arith, m, c.if-r-m.true)) (u.ends c.if-r-m.true))

pub overflow_add-i : goal.overflow_add-i
overflow_add-i c = omega (arith, c.in_next_row-r.ensures.most, c.row_left-m.ensures)

pub loop-i-smaller : goal.loop-i-smaller
loop-i-smaller c =
    let a = c.args in
    let l = c.loop-i in
    omega (arith, c.if-r-m.false, row-some a.g (a.x + l.i) (a.len - l.i) _ c.row_left-m.ensures (omega arith))

pub loop-i-preserved : goal.loop-i-preserved
loop-i-preserved c =
    let a = c.args in
    let l = c.loop-i in
    let u = c.in_next_row-r.ensures in
    let m = c.row_left-m.ensures in
    let r = c.in_next_row-r.result in
    let e : r ≡ c.row_left-m.result = omega (arith, u.most, c.if-r-m.false) in
    let d : a.x + (l.i + r) ≡ a.x + l.i + c.row_left-m.result = omega (arith, e) in (
      omega (arith, m, u.most),
      (
        (λ h. rw d (row_stop a.g (a.x + l.i) (a.len - l.i) _ m (omega (arith, e, h)))),
        l.invariant.1.1 ∙ run-next a.image.now a.g.root a.x a.len l.i _ _ (omega (arith, m)) u,
      ),
    )

pub returns : goal.returns
returns c =
    let a = c.args in
    let l = c.loop-i in
    sym (l.invariant.1.1 ∙ run-over a.image.now a.g.root a.x a.len l.i c.loop-i-test.false)
