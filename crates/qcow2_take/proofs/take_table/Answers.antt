use native.Mathlib.Omega.{arith}
use Rattle.qcow2_fixed.proofs.Inside.{roots_are, shots-few}
use Rattle.qcow2_take.proofs.Tables.{ahead-inside, within_code, across_code}
use Rattle.qcow2_take.proofs.take_table.Goals as goal

pub root_at-r-requires : goal.root_at-r-requires
root_at-r-requires c =
    (c.requires.0.0, ahead-inside c.args.image.now c.args.w.root c.args.w.row c.args.w.left c.requires.1.0 c.requires.1.1)

pub sweep_rows-e-requires : goal.sweep_rows-e-requires
sweep_rows-e-requires c = ((c.root_at-r.ensures.0, (omega arith, omega arith)), (omega arith, omega arith))

pub returns-then-w-here : goal.returns-then-w-here
returns-then-w-here c =
    let a = c.args in
    let s = a.image.now in
    let o = c.root_at-r in
    let e = c.sweep_rows-e.ensures in
    within_code s a.w a.scratch.now _ _ a.g.clusters o.result.root o.result.l1size c.min-from.result c.saturating_sub-here.result 0 _ c.requires.0.1
    o.ensures.1 o.ensures.0.is_l1size c.saturating_sub-here.ensures c.min-from.ensures c.requires.1.0 c.requires.1.1 c.if-w-here.true e.1 e.0

pub sweep_rows-e-requires-2 : goal.sweep_rows-e-requires-2
sweep_rows-e-requires-2 c = ((c.root_at-r.ensures.0, (omega arith, omega arith)), (omega arith, omega arith))

pub overflow_add-result-2 : goal.overflow_add-result-2
overflow_add-result-2 c =
    let a = c.args in
    let o = c.requires.0.0.0 in
    let h = ahead-inside a.image.now a.w.root a.w.row a.w.left c.requires.1.0 c.requires.1.1 in
    omega (arith, h, roots_are a.g a.image.now o, shots-few a.g a.image.now o)

pub returns : goal.returns
returns c =
    let a = c.args in
    let s = a.image.now in
    let o = c.root_at-r in
    let e = c.sweep_rows-e-2.ensures in
    across_code s a.w a.scratch.now _ _ a.g.clusters o.result.root o.result.l1size c.min-from.result c.saturating_sub-here.result 0 _ c.requires.0.1
    o.ensures.1 o.ensures.0.is_l1size c.saturating_sub-here.ensures c.min-from.ensures c.requires.1.0 c.requires.1.1 c.if-w-here.false e.1 e.0
