-- The L1 tables, the refcount table and the snapshot table of an accepted image lie inside it.
-- Assumes nothing.
use Prim.Native.Nat.{ℕ, zero, suc, ◌+◌, ◌*◌, ◌^◌, ◌≤◌}
use mathlib.Core.Path.{◌≡◌, refl, sym, ◌∙◌}
use mathlib.Core.Logic.{◌≢◌}
use mathlib.Core.List.{List}
use native.Mathlib.Omega.{arith}
use lib.ListN.{length}
use Rattle.qcow2_spec.specs.Header.{most_length, most_l1, most_snapshots, snapshots, snapshot_at, roots}
use Rattle.qcow2_spec.specs.Opened.{Opened}
use Rattle.qcow2_spec.specs.declared.Geometry.{Geometry}
use Rattle.qcow2_spec.proofs.Facts.{Facts, facts, root-count, shot_start, shot_before}
use Rattle.qcow2_fixed.proofs.Runs.{few-clusters}

module _ (g : Geometry) (s : List ℕ) (o : Opened g s) where
  f : Facts s
  f = facts s o.accepted

  pub roots_are : roots s ≡ g.snapshots + 1
  roots_are = omega (arith, root-count s f, o.is-snapshots)

  pub shots-few : g.snapshots ≤ most_snapshots
  shots-few = omega (arith, o.is-snapshots, f.some)

  pub root-short : g.l1size ≤ most_l1
  root-short = omega (arith, o.is_l1size, o.few)

  pub root_near : g.l1at ≤ most_length
  root_near = omega (arith, o.is_l1at, o.l1_fits, o.short)

  pub table_near : g.tableat ≤ most_length
  table_near = omega (arith, o.table_fits, o.short)

  pub table-short : g.tableclusters ≤ most_length
  table-short = omega (arith, few-clusters (g.tableclusters * 2 ^ g.bits) g.tableclusters g.bits refl, o.table_fits, o.short)

  module _ (some : g.snapshots ≢ 0) where
    ends : (n : ℕ) → n ≡ snapshots s → snapshot_at s n ≤ length s
    ends zero e = absurd (some (o.is-snapshots ∙ sym e))
    ends (suc k) e = (f.shots k (omega arith)).ends

    pub shots-inside : snapshot_at s (snapshots s) ≤ length s
    shots-inside = ends (snapshots s) refl

    pub shots-after : g.snapshotsat ≤ snapshot_at s (snapshots s)
    shots-after = omega (arith, o.is_snapshotsat, shot_start s f, shot_before s f (snapshots s) 0 (omega arith))
