use Rattle.std.proofs.Common.{◌≡◌, ◌+◌, ◌*◌, ◌/◌, ◌^◌, ◌≤◌, length, sym, ◌∙◌, arith}
use Rattle.endian.proofs.Entries.{entries-whole}
use Rattle.window.specs.Window.{board}
use Rattle.window.proofs.Steps.{visit_all_in_end}
use Rattle.qcow2_spec.specs.References.{l2_refs}
use Rattle.qcow2_groups.specs.Walks.{whole}
use Rattle.qcow2_sweep.specs.Sweeps.{passes_by}
use Rattle.qcow2_sweep.proofs.Tables.{group_visits, group-fronted, fronted-first, fronted_end}
use Rattle.qcow2_sweep.proofs.sweep_table.Goals as goal

pub loop-d-init : goal.loop-d-init
loop-d-init c =
    let a = c.args in
    let T = a.table.now in
    let e = entries-whole (length T / 8) T in
    (omega arith, rw e (fronted-first (passes_by a.kind a.version (2 ^ a.bits) a.n) (whole T)), rw e)

pub front_after-r-requires : goal.front_after-r-requires
front_after-r-requires c = ((c.requires.0.0.high, omega arith), c.sweep_group-t.ensures.0)

pub loop-d-preserved : goal.loop-d-preserved
loop-d-preserved c =
    let s = c.sweep_group-t in
    let a = c.args in
    let T = a.table.now in
    let l = c.loop-d in
    let j = 64 * l.d in
    let room : j + 64 ≤ length T / 8 = omega arith in
    let next : 64 * (l.d + 1) ≡ j + 64 = omega arith in
    let f = group-fronted (length T / 8) j T room (passes_by a.kind a.version (2 ^ a.bits) a.n) l.r c.front_after-r.result l.invariant.0 c.front_after-r.ensures in
    let v = group_visits (length T / 8) j T room a.kind a.b (l2_refs a.version (2 ^ a.bits) a.n) (board l.target l.least) in
    rw next (f.1, f.0 ∙ l.invariant.1, rw s.ensures.1 (sym v ∙ l.invariant.2))

pub returns : goal.returns
returns c =
    let a = c.args in
    let T = a.table.now in
    let l = c.loop-d in
    let k : length T / 8 ≤ 64 * l.d = omega arith in (
      sym (fronted_end (passes_by a.kind a.version (2 ^ a.bits) a.n) l.r (length T / 8) (64 * l.d) T k) ∙ l.invariant.1,
      sym (visit_all_in_end a.kind a.b (l2_refs a.version (2 ^ a.bits) a.n) (length T / 8) (64 * l.d) T (board l.target l.least) k) ∙ l.invariant.2,
    )
