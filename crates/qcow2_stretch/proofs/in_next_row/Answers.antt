use native.Mathlib.Omega.{arith}
use Prim.Native.Nat.{◌+◌}
use Rattle.qcow2_guest.proofs.Ready.{reached}
use Rattle.qcow2_stretch.proofs.in_next_row.Goals as goal

pub overflow_add-x : goal.overflow_add-x
overflow_add-x c = omega (arith, c.requires.1.fits, c.requires.0.0.far)

pub row_at-w-requires : goal.row_at-w-requires
row_at-w-requires c =
    let a = c.args in
    let o = c.requires.0.0 in
    (o, rw (c.quotient.ensures.0, o.is-cluster) (reached a.g a.image.now o (a.x + a.i) (omega (arith, c.requires.1.fits, c.requires.1.some))))

pub in_row-requires : goal.in_row-requires
in_row-requires c =
    (c.requires.0, (c.requires.1, rw (← c.quotient.ensures.0) c.row_at-w.ensures))

pub returns : goal.returns
returns c = c.in_row.ensures
