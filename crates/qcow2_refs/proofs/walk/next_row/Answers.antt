use native.Mathlib.Omega.{arith}
use Prim.Native.Nat.{◌/◌}
use mathlib.Core.Path.{◌≡◌}
use Rattle.qcow2_spec.specs.Header.{per_table}
use Rattle.qcow2_refs.proofs.walk.next_row.Goals as goal

pub row_at-e-requires : goal.row_at-e-requires
row_at-e-requires c = (c.requires.0.0, c.requires.0.1.1)

pub walk_row-k-requires : goal.walk_row-k-requires
walk_row-k-requires c = ((c.requires.0.0, c.requires.0.1.0), c.requires.1)

pub power-requires : goal.power-requires
power-requires c = omega (arith, c.requires.0.0.high)

pub passed-requires : goal.passed-requires
passed-requires c = let p = c.requires in omega (arith, p.0.1.1, p.0.0.is_l1size, p.0.0.few)

pub returns : goal.returns
returns c =
    let n : c.power.result / 8 ≡ per_table c.args.image.now = omega (arith, c.power.ensures.0, c.requires.0.0.is-cluster, c.requires.0.0.eight) in (
      rw (← n, ← c.row_at-e.ensures, ← c.walk_row-k.ensures.0) c.passed.ensures,
      rw c.row_at-e.ensures at c.walk_row-k.ensures.1,
    )
