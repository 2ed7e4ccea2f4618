use native.Mathlib.Omega.{arith}
use mathlib.Core.Path.{◌∙◌}
use Rattle.qcow2_spec.specs.References.{fixed_refs}
use Rattle.qcow2_forest.proofs.Scratches.{cleared-visited, all-walked}
use Rattle.qcow2_forest.proofs.walk_states.Goals as goal

pub visit_fixed-requires : goal.visit_fixed-requires
visit_fixed-requires c = (c.requires.0, omega arith)

pub walk_roots-requires : goal.walk_roots-requires
walk_roots-requires c = (c.requires.0, c.visit_fixed.auto.target ∙ c.clear.auto.scratch ∙ c.requires.1)

pub returns : goal.returns
returns c =
    let w = c.walk_roots in
    let a = c.args in
    let s = a.image.now in
    let e = cleared-visited 1 a.g.clusters (fixed_refs s) a.scratch.now _ _ 0 _ (omega arith) c.requires.1 c.clear.ensures c.visit_fixed.ensures in
    (w.ensures.0, (rw e at w.ensures.1) ∙ all-walked s a.g.clusters c.requires.0.0.is-clusters)
