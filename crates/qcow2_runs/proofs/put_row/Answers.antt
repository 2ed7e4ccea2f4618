use native.Mathlib.Omega.{arith}
use lib.ListN.{length-set}
use Rattle.qcow2_runs.proofs.Listing.{row-stored}
use Rattle.qcow2_runs.proofs.put_row.Goals as goal

pub bounds-rows-at-2 : goal.bounds-rows-at-2
bounds-rows-at-2 c = simp length-set (omega arith)

pub bounds-rows-at-3 : goal.bounds-rows-at-3
bounds-rows-at-3 c = simp (length-set, length-set) (omega arith)

pub returns : goal.returns
returns c =
    rw (c.found_code.ensures, c.found_host.ensures) (row-stored c.args.rows.now c.args.at c.args.f.now c.args.r c.requires)
