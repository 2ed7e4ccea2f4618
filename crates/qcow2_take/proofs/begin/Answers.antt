use native.Mathlib.Omega.{arith}
use mathlib.Core.Path.{◌∙◌}
use Rattle.qcow2_spec.specs.References.{fixed_refs}
use Rattle.tally.proofs.States.{visit_all-count}
use Rattle.qcow2_forest.proofs.Scratches.{cleared-visited}
use Rattle.qcow2_portions.specs.Rows.{started}
use Rattle.qcow2_take.proofs.begin.Goals as goal

pub visit_fixed-requires : goal.visit_fixed-requires
visit_fixed-requires c = (c.requires.0, omega arith)

pub returns : goal.returns
unfolding started
returns c =
    let a = c.args in
    let s = a.image.now in
    cleared-visited 0 a.g.clusters (fixed_refs s) a.scratch.now _ _ 0 _ (omega arith) c.requires.1 c.clear.ensures c.visit_fixed.ensures
    ∙ rw c.requires.0.0.is-clusters (visit_all-count (fixed_refs s) _)
