use native.Mathlib.Omega.{arith}
use Rattle.qcow2_jobs.specs.Jobs.{freed_units}
use Rattle.qcow2_clear.proofs.Clears.{within, clear_first}
use Rattle.qcow2_discard.proofs.Some.{freed-some}
use Rattle.qcow2_discard.proofs.store.Goals as goal

pub clear-left-requires : goal.clear-left-requires
clear-left-requires c = c.requires.0

pub put_freed-r-requires : goal.put_freed-r-requires
put_freed-r-requires c = rw c.clear-left.auto.image c.requires.1

pub ended_after-requires : goal.ended_after-requires
ended_after-requires c = (omega (arith, c.clear-left.ensures.0), within _ _ _ _ _ c.put_freed-r.ensures)

pub returns : goal.returns
returns c =
    let a = c.args in
    let p = c.put_freed-r in
    let f = c.clear-left in
    rw c.ended_after.ensures (clear_first a.image.now a.allowance (freed_units a.freed) f.result f.new.image p.new.image _ (freed-some a.freed) f.ensures.0 f.ensures.1 p.ensures)
