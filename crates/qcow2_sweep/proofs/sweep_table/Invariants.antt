use Rattle.std.proofs.Common.{◌≡◌, ◌*◌, ◌^◌, ◌≤◌}
use Rattle.tally.specs.Tally.{joined}
use Rattle.window.specs.Window.{board, visit_all_in}
use Rattle.qcow2_spec.specs.References.{l2_refs}
use Rattle.qcow2_groups.specs.Walks.{fore, fronted, whole, on_from}
use Rattle.qcow2_sweep.specs.Sweeps.{passes_by}
use Rattle.qcow2_sweep.proofs.sweep_table.Given as goal

abbrev pub invariant-loop-d : goal.invariant-loop-d
invariant-loop-d l =
    (l.r ≤ 64 * l.d)
    × (fronted (passes_by l.kind l.version (2 ^ l.bits) l.n) l.r (64 * l.d) (on_from (64 * l.d) l.table) ≡ fore (passes_by l.kind l.version (2 ^ l.bits) l.n) (whole l.table))
    × (visit_all_in l.kind l.b (joined (l2_refs l.version (2 ^ l.bits) l.n) (on_from (64 * l.d) l.table)) (board l.target l.least)
    ≡ visit_all_in l.kind l.b (joined (l2_refs l.version (2 ^ l.bits) l.n) (whole l.table)) (board l.initial.target l.low))
