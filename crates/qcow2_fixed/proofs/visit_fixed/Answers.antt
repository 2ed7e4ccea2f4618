use Prim.Native.Nat.{◌^◌}
use mathlib.Core.Path.{◌∙◌}
use Rattle.window.specs.Window.{board}
use Rattle.qcow2_fixed.proofs.Runs.{fixed-all}
use Rattle.qcow2_fixed.proofs.Inside.{table_near, table-short}
use Rattle.qcow2_fixed.proofs.visit_fixed.Goals as goal

pub visit-first-requires : goal.visit-first-requires
visit-first-requires c = c.requires.1

pub visit_clusters-counts-requires : goal.visit_clusters-counts-requires
visit_clusters-counts-requires c =
    let o = c.requires.0.0 in
    let g = c.args.g in
    let s = c.args.image.now in
    ((o.high, c.requires.1), (table_near g s o, table-short g s o))

pub visit_roots-roots-requires : goal.visit_roots-roots-requires
visit_roots-roots-requires c = c.requires

pub visit_snapshots-shots-requires : goal.visit_snapshots-shots-requires
visit_snapshots-shots-requires c = (c.requires.0.0, c.requires.1)

pub visit_blocks-requires : goal.visit_blocks-requires
visit_blocks-requires c = (c.requires.0.0, c.requires.1)

pub returns : goal.returns
returns c =
    let a = c.args in
    let o = c.requires.0.0 in
    let g = a.g in
    (rw (c.visit_snapshots-shots.ensures, c.visit_roots-roots.ensures, c.visit_clusters-counts.ensures, c.visit-first.ensures) at c.visit_blocks.ensures)
    ∙ fixed-all a.image.now a.kind a.b (board a.target.now a.low) g.tableat g.tableclusters (2 ^ g.bits) o.is_tableat o.is_tableclusters o.is-cluster
