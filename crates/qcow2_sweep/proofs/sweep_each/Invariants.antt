use Rattle.std.proofs.Common.{◌≡◌, ◌-◌, ◌*◌, ◌^◌, ◌&&◌, drop}
use Rattle.choice.specs.Pick.{all}
use Rattle.endian.specs.Big.{entries}
use Rattle.tally.specs.Tally.{joined}
use Rattle.window.specs.Window.{board, visit_all_in}
use Rattle.qcow2_spec.specs.References.{l2_refs}
use Rattle.qcow2_sweep.specs.Sweeps.{passes_by, group}
use Rattle.qcow2_sweep.proofs.sweep_each.Given as goal

abbrev pub invariant-loop-j : goal.invariant-loop-j
invariant-loop-j l =
    ((l.good && all (passes_by l.kind l.version (2 ^ l.bits) l.n) (entries (l.end - l.j) (drop (8 * l.j) l.table))) ≡ all (passes_by l.kind l.version (2 ^ l.bits) l.n) (group l.table l.i))
    × (visit_all_in l.kind l.b (joined (l2_refs l.version (2 ^ l.bits) l.n) (entries (l.end - l.j) (drop (8 * l.j) l.table))) (board l.target l.least)
    ≡ visit_all_in l.kind l.b (joined (l2_refs l.version (2 ^ l.bits) l.n) (group l.table l.i)) (board l.initial.target l.low))
