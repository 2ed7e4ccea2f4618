use native.Mathlib.Omega.{arith}
use Rattle.qcow2_spec.specs.Header.{clusters}
use Rattle.qcow2_spec.specs.References.{figures_of}
use Rattle.qcow2_spec.specs.Check.{repair_units}
use Rattle.qcow2_clear.proofs.Clears.{within, clear_first}
use Rattle.qcow2_repair.proofs.Midway.{refs_long}
use Rattle.qcow2_repair.proofs.Repairs.{cleared-kept, laid_kept, mended}
use Rattle.qcow2_repair.proofs.store.Goals as goal

pub clear-left-requires : goal.clear-left-requires
clear-left-requires c = c.requires.opened

pub repair-r-requires : goal.repair-r-requires
repair-r-requires c =
    let a = c.args in
    let k = cleared-kept a.image.now _ a.allowance c.requires.opened.long c.clear-left.ensures.1 in
    (laid_kept a.g a.image.now a.refs.now c.requires _ k, omega (arith, refs_long a.image.now a.refs.now c.requires.figures, c.requires.opened.is-clusters))

pub ended_after-requires : goal.ended_after-requires
ended_after-requires c = (omega (arith, c.clear-left.ensures.0), within _ _ _ _ _ c.repair-r.ensures)

pub returns : goal.returns
returns c =
    let a = c.args in
    let l = a.image.now in
    let p = c.repair-r in
    let f = c.clear-left in
    let k = cleared-kept l _ a.allowance c.requires.opened.long f.ensures.1 in
    let U = repair_units l (figures_of l) 0 (clusters l) in
    rw c.ended_after.ensures (clear_first l a.allowance U f.result f.new.image p.new.image _ c.requires.some f.ensures.0 f.ensures.1 (rw (mended a.g l a.refs.now c.requires _ k) at p.ensures))
