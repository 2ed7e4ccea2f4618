-- In a healthy image the counts lie apart from each other, from the refcount table and from the header. Assumes nothing.
use Prim.Native.Nat.{ℕ, ◌+◌, ◌*◌, ◌/◌, ◌%◌, ◌≤◌, ◌<◌}
use native.Mathlib.Nat.{div-add-mod', div-lt_iff_lt-mul, mod-lt, mul-le-mul_left, mul-le-mul_right, pos_of_ne-zero}
use native.Mathlib.Decide.{ℕ_discrete}
use native.Mathlib.Omega.{arith}
use mathlib.Core.Path.{◌≡◌, refl, sym, ap}
use mathlib.Core.Logic.{◌⊎◌, inl, inr, ◌≢◌}
use mathlib.Core.List.{List}
use Rattle.cuts.proofs.Cell.{mem}
use Rattle.cuts.proofs.Meta.{blk, fix, Sound, blk_0, blk_rt, blk_blk, rt_0}
use Rattle.cuts.proofs.Step.{fix_one, steps_apart}
use Rattle.qcow2_spec.specs.Header.{cluster_size, clusters, width, per_block, per_table, blocks, table_at, table_clusters}
use Rattle.qcow2_spec.specs.Counts.{count_at}
use Rattle.qcow2_spec.proofs.Numbers.{place_of}
use Rattle.qcow2_spec.proofs.Facts.{Facts, c_big, c_w, c_8, e_pos, n_pos, h_pos, in_block}
use Rattle.qcow2_spec.proofs.Geo.{geo, code, geo_ok}
use Rattle.qcow2_spec.proofs.Kept.{block_place}
use Rattle.qcow2_repair.specs.Leaks.{Apart}

-- of two places one stands before the other, and two others stand no nearer
farther : {a b c d p q u v : ℕ} → (a ≤ b) ⊎ (c ≤ d) → p + b ≤ a + q → u + d ≤ c + v → (p ≤ q) ⊎ (u ≤ v)
farther (inl h) x y = inl (omega arith)
farther (inr h) x y = inr (omega arith)

module _ (s : List ℕ) (f : Facts s) (sound : Sound (geo s) (code s) (mem (cluster_size s) s)) where
  abbrev m : ℕ → ℕ → ℕ
  m = mem (cluster_size s) s

  -- the cluster of cluster k's count, and that of entry b of the refcount table
  abbrev block : ℕ → ℕ
  block k = blk (geo s) m (k / per_block s)

  abbrev row : ℕ → ℕ
  row b = table_at s / cluster_size s + b / per_table s

  one : (c : ℕ) → c < clusters s → fix (geo s) m c ≤ 1
  one = fix_one (geo s) (code s) (geo_ok s f) m sound

  block_one : (k : ℕ) → k < clusters s → fix (geo s) m (block k) ≤ 1
  block_one k l = one (block k) (sound.blkin (k / per_block s) (in_block s f k l))

  row_in : (b : ℕ) → b < blocks s → b / per_table s < table_clusters s
  row_in b l = (div-lt_iff_lt-mul (e_pos s f)).1 (omega (arith, f.enough))

  row-place : (b : ℕ) → row b * cluster_size s + 8 * (b % per_table s) ≡ table_at s + 8 * b
  row-place b = place_of (cluster_size s) (per_table s) (table_at s) b (c_8 s f) f.table-whole

  count-place : (k : ℕ) → k < clusters s → count_at s k ≡ 8 * (block k * cluster_size s) + width s * (k % per_block s)
  unfolding count_at
  count-place k l = ap (λ (x : ℕ). 8 * x + width s * (k % per_block s)) (sym (block_place s f k l))

  offset : (k : ℕ) → width s * (k % per_block s) + width s ≤ 8 * cluster_size s
  offset k = omega (arith, mul-le-mul_left (width s) (mod-lt k (h_pos s f)), c_w s f)

  apart-counts : (j k : ℕ) → j < k → k < clusters s → (count_at s j + width s ≤ count_at s k) ⊎ (count_at s k + width s ≤ count_at s j)
  apart-counts j k h l = go (ℕ_discrete (k / per_block s) (j / per_block s))
    where
      i : j < clusters s
      i = omega arith

      go : Dec (k / per_block s ≡ j / per_block s) → (count_at s j + width s ≤ count_at s k) ⊎ (count_at s k + width s ≤ count_at s j)
      go (no n) =
          farther
          (steps_apart (8 * cluster_size s) (block j) (block k) _ refl (blk_blk (geo s) m (block j) (j / per_block s) (k / per_block s) (in_block s f j i) (in_block s f k l) n (block_one j i) refl))
          (omega (arith, count-place j i, count-place k l, offset j)) (omega (arith, count-place j i, count-place k l, offset k))
      go (yes e) =
          let q : k / per_block s * per_block s ≡ j / per_block s * per_block s = ap (λ (z : ℕ). z * per_block s) e in
          let u : block k * cluster_size s ≡ block j * cluster_size s = ap (λ (b : ℕ). blk (geo s) m b * cluster_size s) e in
          farther (steps_apart (width s) (j % per_block s) (k % per_block s) _ refl (λ z. omega (arith, div-add-mod' j (per_block s), div-add-mod' k (per_block s))))
          (omega (arith, count-place j i, count-place k l)) (omega (arith, count-place j i, count-place k l))

  apart-table : (j b : ℕ) → j < clusters s → b < blocks s → (count_at s j + width s ≤ 8 * (table_at s + 8 * b)) ⊎ (8 * (table_at s + 8 * b + 8) ≤ count_at s j)
  apart-table j b h l =
      farther
      (steps_apart (8 * cluster_size s) (block j) (row b) _ refl (blk_rt (geo s) m (block j) (j / per_block s) (b / per_table s) (in_block s f j h) (row_in b l) (block_one j h) refl))
      (omega (arith, count-place j h, offset j, row-place b)) (omega (arith, count-place j h, row-place b, c_8 s f, mod-lt b (e_pos s f)))

  past_first : (c : ℕ) → c ≢ 0 → 512 ≤ c * cluster_size s
  past_first c d = omega (arith, mul-le-mul_right (cluster_size s) (pos_of_ne-zero d), c_big s f)

  past-count : (k : ℕ) → k < clusters s → 8 * 512 ≤ count_at s k
  past-count k l = omega (arith, count-place k l, past_first (block k) (blk_0 (geo s) m (block k) (k / per_block s) (in_block s f k l) (block_one k l) refl))

  past-table : 512 ≤ table_at s
  past-table =
      let l = row_in 0 (omega (arith, in_block s f 0 (n_pos s f))) in
      omega (arith, row-place 0, past_first (row 0) (rt_0 (geo s) m (row 0) (0 / per_table s) l (one (row 0) (omega (arith, (geo_ok s f).rtin))) refl))

  pub apart : Apart s
  apart = record { counts = apart-counts; table = apart-table; past = past-count; table-past = past-table }
