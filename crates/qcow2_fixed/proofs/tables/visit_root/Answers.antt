use native.Mathlib.Omega.{arith}
use Prim.Native.Nat.{◌^◌}
use Rattle.qcow2_fixed.proofs.Runs.{root-run}
use Rattle.qcow2_fixed.proofs.Inside.{root-short, root_near}
use Rattle.qcow2_fixed.proofs.tables.visit_root.Goals as goal

pub overflow_mul-r : goal.overflow_mul-r
overflow_mul-r c =
    omega (arith, root-short c.args.r c.args.image.now c.requires.0)

pub visit_bytes-requires : goal.visit_bytes-requires
visit_bytes-requires c =
    let o = c.requires.0 in
    let g = c.args.r in
    let s = c.args.image.now in
    ((o.high, c.requires.1), (root_near g s o, omega (arith, root-short g s o)))

pub returns : goal.returns
returns c =
    let o = c.requires.0 in
    let g = c.args.r in
    rw (root-run c.args.image.now g.root g.l1at g.l1size (2 ^ g.bits) o.is_l1at o.is_l1size o.is-cluster) at c.visit_bytes.ensures
