use native.Mathlib.Omega.{arith}
use Rattle.qcow2_fixed.proofs.Inside.{roots_are, shots-few}
use Rattle.qcow2_trees.proofs.Spots.{front-walked}
use Rattle.qcow2_trees.proofs.next_root.Goals as goal

pub root_at-r-requires : goal.root_at-r-requires
root_at-r-requires c = let p = c.requires.0.0 in (p.0, omega (arith, p.1))

pub table_by-requires : goal.table_by-requires
table_by-requires c =
    let o = c.requires.0.0.0.0 in
    omega (arith, c.requires.0.0.1, roots_are c.args.g c.args.image.now o, shots-few c.args.g c.args.image.now o)

pub data_by-requires : goal.data_by-requires
data_by-requires c =
    let o = c.requires.0.0.0.0 in
    omega (arith, c.requires.0.0.1, roots_are c.args.g c.args.image.now o, shots-few c.args.g c.args.image.now o)

pub walk_rows-w-requires : goal.walk_rows-w-requires
walk_rows-w-requires c =
    let r = c.root_at-r.ensures.0 in
    ((r, omega (arith, c.requires.0.1, c.requires.0.0.0.0.is-clusters, r.is-clusters)), (c.table_by.ensures.1, c.data_by.ensures.1))

pub onward-requires : goal.onward-requires
onward-requires c =
    let o = c.requires.0.0.0.0 in
    omega (arith, c.requires.0.0.1, roots_are c.args.g c.args.image.now o, shots-few c.args.g c.args.image.now o)

pub returns : goal.returns
returns c =
    let a = c.args in
    let e = c.root_at-r.ensures in (
      front-walked a.states a.image.now a.t a.f c.onward.result _ c.root_at-r.result.root _ _ _ c.data_by.ensures.0 e.1 e.0.is_l1size c.requires.1 c.walk_rows-w.ensures.0 c.onward.ensures,
      rw (c.data_by.ensures.0, c.table_by.ensures.0, e.1) at c.walk_rows-w.ensures.1,
    )
