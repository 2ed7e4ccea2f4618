use Rattle.std.proofs.Common.{◌^◌, sym, ◌∙◌}
use Rattle.window.specs.Window.{board}
use Rattle.window.proofs.Steps.{visit_all_in_turn, visit_all_in_end}
use Rattle.qcow2_spec.specs.References.{l2_refs}
use Rattle.qcow2_sweep.specs.Sweeps.{passes_by}
use Rattle.qcow2_sweep.proofs.Tables.{group-first, all_turn, all_end}
use Rattle.qcow2_sweep.proofs.sweep_each.Goals as goal

pub loop-j-init : goal.loop-j-init
loop-j-init c =
    let a = c.args in
    let e = group-first a.i a.table.now in
    (rw e, rw e)

pub loop-j-preserved : goal.loop-j-preserved
loop-j-preserved c =
    let s = c.sweep_entry-t in
    let l = c.load64-e.ensures in
    let a = c.args in
    let T = a.table.now in
    let k = c.loop-j-test.true in (
      all_turn (passes_by a.kind a.version (2 ^ a.bits) a.n) _ c.loop-j.j T c.loop-j.good s.result.good k (rw (← l) s.ensures.0) ∙ c.loop-j.invariant.0,
      rw (s.ensures.1, l) (sym (visit_all_in_turn a.kind a.b (l2_refs a.version (2 ^ a.bits) a.n) _ c.loop-j.j T (board c.loop-j.target c.loop-j.least) k) ∙ c.loop-j.invariant.1),
    )

pub returns : goal.returns
returns c =
    let a = c.args in
    let T = a.table.now in
    let k = c.loop-j-test.false in (
      sym (all_end (passes_by a.kind a.version (2 ^ a.bits) a.n) _ c.loop-j.j T c.loop-j.good k) ∙ c.loop-j.invariant.0,
      sym (visit_all_in_end a.kind a.b (l2_refs a.version (2 ^ a.bits) a.n) _ c.loop-j.j T (board c.loop-j.target c.loop-j.least) k) ∙ c.loop-j.invariant.1,
    )
