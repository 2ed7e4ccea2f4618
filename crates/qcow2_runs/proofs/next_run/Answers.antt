use native.Mathlib.Omega.{arith}
use Rattle.qcow2_guest.proofs.Ready.{reached}
use Rattle.qcow2_runs.proofs.next_run.Goals as goal

pub row_at-w-requires : goal.row_at-w-requires
row_at-w-requires c =
    let a = c.args in
    let o = c.requires.0 in
    (o, rw (c.quotient.ensures.0, o.is-cluster) (reached a.g a.image.now o a.x (omega (arith, c.requires.1.0))))

pub found_in-f-requires : goal.found_in-f-requires
found_in-f-requires c = (c.requires.0, rw (← c.quotient.ensures.0) c.row_at-w.ensures)

pub run_length-r-requires : goal.run_length-r-requires
run_length-r-requires c =
    ((c.requires.0, c.found_in-f.ensures), c.requires.1.0.1)

pub returns : goal.returns
returns c = (c.run_length-r.ensures, rw (← c.found_in-f.ensures) c.put_row.ensures)
