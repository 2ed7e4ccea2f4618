-- `qcow2_added::add_counts` meets its contract. Assumes nothing.
use Rattle.qcow2_spec.specs.Header.{clusters}
use Rattle.qcow2_spec.specs.References.{figures_of}
use Rattle.qcow2_batches.specs.Rows.{rows_in}
use Rattle.qcow2_added.proofs.Own.{rows-repair}
use Rattle.qcow2_added.proofs.Parts.{added-part}
use Rattle.qcow2_added.proofs.add_counts.Goals as goal

pub put_counts-requires : goal.put_counts-requires
put_counts-requires c = c.requires

pub returns : goal.returns
returns c =
    let a = c.args in
    let l = a.image.now in
    added-part a.k a.rows.now _ c.past-a.ensures l _ _ _ _ (rows-repair l (figures_of l) (rows_in 1 a.k a.rows.now) (clusters l) c.requires.covered) c.put_counts.ensures
