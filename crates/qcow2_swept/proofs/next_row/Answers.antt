use native.Mathlib.Omega.{arith}
use Prim.Native.Nat.{◌/◌}
use mathlib.Core.Path.{◌≡◌}
use Rattle.qcow2_spec.specs.Header.{per_table}
use Rattle.qcow2_refs.specs.Walks.{row_at}
use Rattle.qcow2_swept.proofs.Verdicts.{row_named}
use Rattle.qcow2_swept.proofs.next_row.Goals as goal

pub row_at-e-requires : goal.row_at-e-requires
row_at-e-requires c = c.requires.0

pub sweep_row-s-requires : goal.sweep_row-s-requires
sweep_row-s-requires c = (c.requires.0.0, c.requires.1)

pub power-requires : goal.power-requires
power-requires c = omega (arith, c.requires.0.0.high)

pub returns : goal.returns
returns c =
    let a = c.args in
    let o = c.requires.0.0 in
    let s = a.image.now in
    let w = c.sweep_row-s.ensures in
    let r = c.row_at-e.ensures in
    let n : c.power.result / 8 ≡ per_table s = omega (arith, c.power.ensures.0, o.is-cluster, o.eight) in (
      rw (row_named a.leaf s a.g.root a.i (row_at s a.g.root a.i), ← n, ← r, ← w.0) c.named.ensures,
      rw r at w.1,
    )
