use native.Mathlib.Omega.{arith}
use Prim.Native.Nat.{ℕ, ◌^◌}
use mathlib.Core.Path.{ap, ◌∙◌}
use mathlib.Core.List.{List}
use Rattle.window.specs.Window.{board, visit_all_in}
use Rattle.qcow2_spec.proofs.Facts.{facts, c_pos}
use Rattle.qcow2_fixed.proofs.Runs.{snapshot_run_lem, snapshot_none}
use Rattle.qcow2_fixed.proofs.Inside.{shots-inside, shots-after}
use Rattle.qcow2_fixed.proofs.tables.visit_snapshots.Goals as goal

pub returns-then-g-eq0 : goal.returns-then-g-eq0
returns-then-g-eq0 c =
    let a = c.args in
    let o = c.requires.0 in
    let s = a.image.now in
    snapshot_none s a.kind a.b (board a.target.now a.low) (omega (arith, o.is-snapshots, c.if-g-eq0.true)) (c_pos s (facts s o.accepted))

pub table_end-requires : goal.table_end-requires
table_end-requires c = c.requires.0

pub overflow_sub-bytes : goal.overflow_sub-bytes
overflow_sub-bytes c =
    omega (arith, c.table_end.ensures, shots-after c.args.g c.args.image.now c.requires.0 c.if-g-eq0.false)

pub visit_bytes-requires : goal.visit_bytes-requires
visit_bytes-requires c =
    let o = c.requires.0 in
    let g = c.args.g in
    let s = c.args.image.now in
    let n = c.if-g-eq0.false in
    let i = shots-inside g s o n in
    ((o.high, c.requires.1), (omega (arith, shots-after g s o n, i, o.short), omega (arith, c.table_end.ensures, i, o.short)))

pub returns : goal.returns
returns c =
    let e = c.table_end in
    let a = c.args in
    let o = c.requires.0 in
    let g = a.g in
    let k = snapshot_run_lem a.image.now g.snapshotsat e.result (2 ^ g.bits) o.is_snapshotsat e.ensures o.is-cluster in
    c.visit_bytes.ensures ∙ ap (λ (l : List ℕ). visit_all_in a.kind a.b l (board a.target.now a.low)) k
