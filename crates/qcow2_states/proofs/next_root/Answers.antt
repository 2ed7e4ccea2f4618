use native.Mathlib.Omega.{arith}
use Rattle.qcow2_fixed.proofs.Inside.{roots_are, shots-few}
use Rattle.qcow2_states.proofs.Windows.{table-found, table-visited}
use Rattle.qcow2_states.proofs.next_root.Goals as goal

pub root_at-r-requires : goal.root_at-r-requires
root_at-r-requires c = let p = c.requires in (p.0, omega (arith, p.1))

pub table_by-table-requires : goal.table_by-table-requires
table_by-table-requires c =
    let o = c.requires.0.0 in
    omega (arith, c.requires.1, roots_are c.args.g c.args.image.now o, shots-few c.args.g c.args.image.now o)

pub data_by-leaf-requires : goal.data_by-leaf-requires
data_by-leaf-requires c =
    let o = c.requires.0.0 in
    omega (arith, c.requires.1, roots_are c.args.g c.args.image.now o, shots-few c.args.g c.args.image.now o)

pub sweep_rows-requires : goal.sweep_rows-requires
sweep_rows-requires c = let t = c.table_by-table.ensures.1 in let l = c.data_by-leaf.ensures.1 in ((c.root_at-r.ensures.0, (omega arith, omega arith)), (omega (arith, t), omega (arith, l)))

pub returns : goal.returns
returns c =
    let r = c.root_at-r in
    let a = c.args in
    let s = a.image.now in
    let l = c.data_by-leaf.ensures.0 in (
      table-found s a.t r.result.root r.result.l1size 0 _ r.ensures.1 r.ensures.0.is_l1size l a.w.found _ c.sweep_rows.ensures.0,
      table-visited s a.t r.result.root r.result.l1size _ _ r.ensures.1 r.ensures.0.is_l1size l a.b _ _ c.table_by-table.ensures.0 c.sweep_rows.ensures.1,
    )
