-- What an accepted image gives for a snapshot's L1 table.
-- Assumes nothing.
use Prim.Native.Nat.{ℕ, suc, ◌+◌, ◌*◌, ◌/◌, ◌^◌, ◌≤◌, ◌<◌}
use native.Mathlib.Nat.{mul-le-mul}
use native.Mathlib.Omega.{arith}
use mathlib.Core.Path.{◌≡◌, ◌∙◌}
use mathlib.Core.List.{List}
use lib.ListN.{length}
use lib.Pow.{pow_mono}
use Rattle.endian.specs.Big.{be32, be64}
use Rattle.qcow2_spec.specs.Header.{most_bits, most_l1, per_table, snapshots, snapshot_at, roots, root_size, root_at}
use Rattle.qcow2_spec.specs.Guest.{reach}
use Rattle.qcow2_spec.specs.Opened.{geometry, Opened}
use Rattle.qcow2_spec.specs.declared.Geometry.{Geometry}
use Rattle.qcow2_spec.proofs.Facts.{facts, shot_read, root-few, root-count}
use Rattle.qcow2_spec.proofs.Open.{geometry-opened}

module _ (g : Geometry) (s : List ℕ) (o : Opened g s) (k : ℕ) (h : k < snapshots s) where
  -- its entry can be read
  pub entry-inside : snapshot_at s k + 40 ≤ length s
  entry-inside = shot_read s (facts s o.accepted) k h

  rooted : suc k < roots s
  rooted = omega (arith, root-count s (facts s o.accepted))

  -- the table is short, so that neither product wraps
  pub entries-few : be32 s (snapshot_at s k + 8) ≤ most_l1
  unfolding root_size
  entries-few = root-few s (facts s o.accepted) (suc k) rooted

  pub reach-small : (l c : ℕ) → l ≡ be32 s (snapshot_at s k + 8) → c ≡ 2 ^ g.bits → (l * (c / 8) ≤ 2 ^ 34) × (l * (c / 8) * c ≤ 2 ^ 55)
  reach-small l c el ec =
      let u : c ≤ 2 ^ most_bits = omega (arith, pow_mono o.high) in
      let v : c / 8 ≤ 2 ^ 18 = omega arith in
      let w : l ≤ most_l1 = omega (arith, entries-few) in
      (omega (arith, mul-le-mul w v), omega (arith, mul-le-mul (mul-le-mul w v) u))

  pub root_opened : (l c p : ℕ) → l ≡ be32 s (snapshot_at s k + 8) → c ≡ 2 ^ g.bits → p ≡ be64 s (snapshot_at s k)
      → Opened (record {
        version = g.version;
        bits = g.bits;
        order = g.order;
        clusters = g.clusters;
        root = k + 1;
        size = l * (c / 8) * c;
        l1size = l;
        l1at = p;
        tableat = g.tableat;
        tableclusters = g.tableclusters;
        blocks = g.blocks;
        snapshots = g.snapshots;
        snapshotsat = g.snapshotsat;
        backed = g.backed;
      }) s
  unfolding geometry reach root_size root_at
  root_opened l c p el ec ep =
      let q : c / 8 ≡ per_table s = omega (arith, o.is-cluster, o.eight) in
      let n : k + 1 ≡ suc k = omega arith in
      rw (q, ec ∙ o.is-cluster, el, ep, n, o.is-version, o.is_bits, o.is-order, o.is-clusters, o.is_tableat, o.is_tableclusters, o.is-blocks, o.is-snapshots, o.is_snapshotsat, o.is-backed)
      (geometry-opened s o.accepted (suc k) rooted)
