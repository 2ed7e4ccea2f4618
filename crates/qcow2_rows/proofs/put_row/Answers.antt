-- `qcow2_rows::put_row` meets its contract. Assumes nothing.
use native.Mathlib.Omega.{arith}
use mathlib.Core.Path.{refl}
use lib.ListN.{length-set}
use Rattle.qcow2_rows.proofs.Laws.{puts_four, puts_past}
use Rattle.qcow2_rows.proofs.put_row.Goals as goal
use Rattle.qcow2_rows.proofs.put_row.Goals.{then-k-rows, else-k-rows}

pub bounds-rows-k-then-k-rows : goal.bounds-rows-k-then-k-rows
bounds-rows-k-then-k-rows c = simp length-set (omega arith)

pub bounds-rows-k-then-k-rows-2 : goal.bounds-rows-k-then-k-rows-2
bounds-rows-k-then-k-rows-2 c = simp length-set (omega arith)

pub bounds-rows-k-then-k-rows-3 : goal.bounds-rows-k-then-k-rows-3
bounds-rows-k-then-k-rows-3 c = simp length-set (omega arith)

pub returns : goal.returns
returns c =
    let a = c.args in (
      refl,
      elim c.if-k-rows.branch [
        | then-k-rows w ↦ rw w.rows-is (puts_four a.rows.now a.k a.at a.len a.made a.epoch w.if-k-rows.true)
        | else-k-rows w ↦ rw w.rows-is (puts_past a.rows.now a.k a.at a.len a.made a.epoch w.if-k-rows.false)
      ],
    )
