use native.Mathlib.Omega.{arith}
use mathlib.Core.Path.{◌∙◌}
use Rattle.qcow2_spec.specs.Header.{clusters}
use Rattle.qcow2_spec.specs.References.{figures_of}
use Rattle.qcow2_spec.specs.Check.{repair_units}
use Rattle.qcow2_repair.proofs.Midway.{refs_long}
use Rattle.qcow2_repair.proofs.Repairs.{repair_figured}
use Rattle.qcow2_rows.proofs.Laws.{puts_same}
use Rattle.qcow2_ways.proofs.Listings.{list_units, rows-repair}
use Rattle.qcow2_ways.proofs.leaks.Goals as goal

pub clear_row-k-requires : goal.clear_row-k-requires
clear_row-k-requires c = c.requires.opened

pub count_rows-n-requires : goal.count_rows-n-requires
count_rows-n-requires c =
    let a = c.args in
    let h = refs_long a.image.now a.refs.now c.requires.figures in
    (c.requires.opened, (c.clear_row-k.ensures.0, omega (arith, h, c.requires.opened.is-clusters)))

pub returns : goal.returns
returns c =
    let a = c.args in
    let l = a.image.now in
    let k = c.clear_row-k in
    let n = c.count_rows-n in
    let U = repair_units l (figures_of l) 0 (clusters l) in
    list_units l U a.rows.now _ _ _ _ _ k.ensures.1 (puts_same (rows-repair l (figures_of l) (clusters l)) (rw (repair_figured a.g l a.refs.now c.requires) at n.ensures.1)) (n.auto.rows ∙ k.auto.rows) c.listed.ensures
