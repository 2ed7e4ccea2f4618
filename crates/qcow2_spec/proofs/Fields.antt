-- Two images with the same header, bytes 80 to 95 aside, and the same snapshot table have the same fields. Assumes nothing.
use Prim.Native.Nat.{ℕ, zero, suc, ◌+◌, ◌*◌, ◌/◌, ◌^◌, ◌≤◌, ◌<◌}
use native.Mathlib.Nat.{add-zero}
use native.Mathlib.Omega.{arith}
use mathlib.Core.Path.{◌≡◌, refl, ap, ap₂}
use mathlib.Core.Logic.{◌⊎◌, inl, inr}
use mathlib.Core.List.{List}
use lib.ListN.{length, get_or}
use Rattle.choice.specs.Pick.{ceil_div}
use Rattle.endian.specs.Big.{be16, be32, be64}
use Rattle.qcow2_spec.specs.Header.{version, cluster_size, clusters, disk_size, l1_size, l1_at, table_at, table_clusters, count_order, width, per_block, blocks, per_table, unsupported, too_big, odd_size, bad_tables, header_number, snapshots, snapshots_at, entry_end, snapshot_at, roots, root_size, root_at, backing_offset, name_length, backed, bad_name}
use Rattle.qcow2_spec.proofs.Facts.{Facts, shot_start, shot_next, shot_before}

-- w bytes of the header from x on, apart from those that nothing reads, or of the snapshot table, which goes from a to b
abbrev pub Field : (a b x w : ℕ) → Type 0
Field a b x w = ((x + w ≤ 80) ⊎ ((96 ≤ x) × (x + w ≤ 512))) ⊎ ((a ≤ x) × (x + w ≤ b))

half : (a b v x w : ℕ) → Field a b x (v + w) → Field a b x v × Field a b (x + v) w
half a b v x w (inl (inl h)) = (inl (inl (omega arith)), inl (inl (omega arith)))
half a b v x w (inl (inr h)) = (inl (inr (h.0, omega arith)), inl (inr (omega arith, omega arith)))
half a b v x w (inr h) = (inr (h.0, omega arith), inr (omega arith, omega arith))

module _ (s t : List ℕ) (a b : ℕ) (same_byte : (x : ℕ) → Field a b x 1 → get_or t x 0 ≡ get_or s x 0) where
  be16-same : (x : ℕ) → Field a b x 2 → be16 t x ≡ be16 s x
  unfolding be16
  be16-same x l = ap₂ (λ (y z : ℕ). y * 256 + z) (same_byte x (half a b 1 x 1 l).0) (same_byte (x + 1) (half a b 1 x 1 l).1)

  be32-same : (x : ℕ) → Field a b x 4 → be32 t x ≡ be32 s x
  unfolding be32
  be32-same x l = ap₂ (λ (y z : ℕ). y * 65536 + z) (be16-same x (half a b 2 x 2 l).0) (be16-same (x + 2) (half a b 2 x 2 l).1)

  be64-same : (x : ℕ) → Field a b x 8 → be64 t x ≡ be64 s x
  unfolding be64
  be64-same x l = ap₂ (λ (y z : ℕ). y * 4294967296 + z) (be32-same x (half a b 4 x 4 l).0) (be32-same (x + 4) (half a b 4 x 4 l).1)

  -- ---- the fields
  pub version-same : version t ≡ version s
  unfolding version
  version-same = be32-same 4 (inl (inl (omega arith)))

  pub size_same : cluster_size t ≡ cluster_size s
  unfolding cluster_size
  size_same = ap (λ (x : ℕ). 2 ^ x) (be32-same 20 (inl (inl (omega arith))))

  pub l1_at-same : l1_at t ≡ l1_at s
  unfolding l1_at
  l1_at-same = be64-same 40 (inl (inl (omega arith)))

  pub l1_size-same : l1_size t ≡ l1_size s
  unfolding l1_size
  l1_size-same = be32-same 36 (inl (inl (omega arith)))

  pub table_at_same : table_at t ≡ table_at s
  unfolding table_at
  table_at_same = be64-same 48 (inl (inl (omega arith)))

  pub table_clusters-same : table_clusters t ≡ table_clusters s
  unfolding table_clusters
  table_clusters-same = be32-same 56 (inl (inl (omega arith)))

  pub disk_same : disk_size t ≡ disk_size s
  unfolding disk_size
  disk_same = be64-same 24 (inl (inl (omega arith)))

  pub per_table-same : per_table t ≡ per_table s
  unfolding per_table
  per_table-same = ap (λ (x : ℕ). x / 8) size_same

  pub width_same : width t ≡ width s
  unfolding width count_order
  width_same = simp (version-same, be32-same 96 (inl (inr (omega arith, omega arith))))

  pub per_block-same : per_block t ≡ per_block s
  unfolding per_block
  per_block-same = ap₂ (λ (x y : ℕ). x * 8 / y) size_same width_same

  pub snapshots-same : snapshots t ≡ snapshots s
  unfolding snapshots
  snapshots-same = be32-same 60 (inl (inl (omega arith)))

  pub snapshots_at-same : snapshots_at t ≡ snapshots_at s
  unfolding snapshots_at
  snapshots_at-same = be64-same 64 (inl (inl (omega arith)))

  pub roots-same : roots t ≡ roots s
  unfolding roots
  roots-same = ap suc snapshots-same

  offset_same : backing_offset t ≡ backing_offset s
  unfolding backing_offset
  offset_same = be64-same 8 (inl (inl (omega arith)))

  pub backed-same : backed t ≡ backed s
  unfolding backed
  backed-same = rw offset_same refl

  pub bad_name-same : bad_name t ≡ bad_name s
  unfolding bad_name name_length
  bad_name-same = rw (size_same, offset_same, be32-same 16 (inl (inl (omega arith)))) refl

  -- ---- images of one length
  module _ (n : length t ≡ length s) where
    pub clusters-same : clusters t ≡ clusters s
    unfolding clusters
    clusters-same = ap₂ (λ (x y : ℕ). x / y) n size_same

    pub blocks-same : blocks t ≡ blocks s
    unfolding blocks
    blocks-same = ap₂ ceil_div clusters-same per_block-same

    pub header-same : header_number t ≡ header_number s
    unfolding header_number unsupported too_big odd_size bad_tables
    header-same =
        simp (
          n,
          version-same,
          size_same,
          disk_same,
          l1_at-same,
          l1_size-same,
          table_at_same,
          table_clusters-same,
          per_table-same,
          blocks-same,
          be32-same 0 (inl (inl (omega arith))),
          be32-same 20 (inl (inl (omega arith))),
          be32-same 32 (inl (inl (omega arith))),
          snapshots-same,
          be32-same 96 (inl (inr (omega arith, omega arith))),
          be32-same 100 (inl (inr (omega arith, omega arith))),
          be64-same 72 (inl (inl (omega arith))),
        )

-- ---- the L1 tables, by the snapshot table of an accepted image
module _ (s : List ℕ) (f : Facts s) (t : List ℕ)
    (same_byte : (x : ℕ) → Field (snapshots_at s) (snapshot_at s (snapshots s)) x 1 → get_or t x 0 ≡ get_or s x 0) where
  abbrev a : ℕ
  a = snapshots_at s

  abbrev b : ℕ
  b = snapshot_at s (snapshots s)

  -- w bytes of snapshot n's entry
  of_entry : (n x w : ℕ) → n < snapshots s → x + w ≤ 40 → Field a b (snapshot_at s n + x) w
  of_entry n x w l h =
      inr (
        omega (arith, shot_before s f n 0 (omega arith), shot_start s f),
        omega (arith, shot_next s f n, shot_before s f (snapshots s) (suc n) l),
      )

  pub snapshot_at-same : (n : ℕ) → n ≤ snapshots s → snapshot_at t n ≡ snapshot_at s n
  unfolding snapshot_at entry_end
  snapshot_at-same zero l = snapshots_at-same s t a b same_byte
  snapshot_at-same (suc n) l =
      rw (
        snapshot_at-same n (omega arith),
        be32-same s t a b same_byte (snapshot_at s n + 36) (of_entry n 36 4 l (omega arith)),
        be16-same s t a b same_byte (snapshot_at s n + 12) (of_entry n 12 2 l (omega arith)),
        be16-same s t a b same_byte (snapshot_at s n + 14) (of_entry n 14 2 l (omega arith)),
      ) refl

  pub root_size-same : (n : ℕ) → n < roots s → root_size t n ≡ root_size s n
  unfolding roots root_size
  root_size-same zero l = l1_size-same s t a b same_byte
  root_size-same (suc n) l = rw (snapshot_at-same n (omega arith)) (be32-same s t a b same_byte (snapshot_at s n + 8) (of_entry n 8 4 (omega arith) (omega arith)))

  pub root_at-same : (n : ℕ) → n < roots s → root_at t n ≡ root_at s n
  unfolding roots root_at
  root_at-same zero l = l1_at-same s t a b same_byte
  root_at-same (suc n) l =
      rw (snapshot_at-same n (omega arith)) (rw add-zero at (be64-same s t a b same_byte (snapshot_at s n + 0) (of_entry n 0 8 (omega arith) (omega arith))))
