-- Sizes of an accepted image in the numbers that the code has. Assumes nothing.
use Prim.Native.Nat.{ℕ, ◌+◌, ◌-◌, ◌*◌, ◌/◌, ◌%◌, ◌^◌, ◌≤◌, ◌<◌}
use native.Mathlib.Nat.{mul-le-mul_left, mod-lt, mul-zero, add-zero}
use Rattle.widths.specs.Width.{Inside}
use Rattle.widths.proofs.Cells.{aligned_next, inside-next}
use native.Mathlib.Omega.{arith}
use mathlib.Core.Path.{◌≡◌, sym, ap, ◌∙◌}
use mathlib.Core.List.{List}
use lib.Pow.{pow_pos, pow_mono, pow-add}
use lib.ListN.{length}
use Rattle.endian.specs.Big.{be64}
use Rattle.qcow2_spec.specs.Header.{most_bits, most_length, clusters, per_block, blocks, block_at}
use Rattle.qcow2_spec.specs.Counts.{count_at}
use Rattle.qcow2_spec.specs.Opened.{Opened}
use Rattle.qcow2_spec.specs.declared.Geometry.{Geometry}
use Rattle.qcow2_spec.proofs.Facts.{Facts, facts, in_block, block_aligned, cluster_in}
use Rattle.qcow2_counts.specs.Blocks.{Named, Reach, Row, per_of, table_place, count_place}

-- the counts of a block fill it
pub record Sizes (g : Geometry) (s : List ℕ) : Type 0 where
  pub per : per_block s ≡ per_of g
  pub pair : 2 ^ g.order * per_of g ≡ 8 * 2 ^ g.bits
  pub some : 0 < per_of g
  pub small : per_of g ≤ 16777216
  pub most : 2 ^ g.bits ≤ 2 ^ most_bits
  pub few : g.clusters ≤ most_length
  pub all : Facts s

pub fills : (b o : ℕ) → o ≤ b → 2 ^ o * 2 ^ (b + 3 - o) ≡ 8 * 2 ^ b
fills b o h =
    let e : o + (b + 3 - o) ≡ 3 + b = omega arith in
    sym (pow-add 2 o (b + 3 - o)) ∙ ap (λ (x : ℕ). 2 ^ x) e ∙ pow-add 2 3 b

module _ (g : Geometry) (s : List ℕ) (o : Opened g s) where
  pub sizes : Sizes g s
  sizes =
      let f = facts s o.accepted in
      let m : 2 ^ g.bits ≤ 2 ^ most_bits = pow_mono o.high in
      record {
        per = sym o.is-counts;
        pair = fills g.bits g.order (omega (arith, o.low, o.narrow));
        some = pow_pos (g.bits + 3 - g.order);
        small = pow_mono {i = g.bits + 3 - g.order} {j = 24} (omega (arith, o.high));
        most = m;
        few = omega (arith, mul-le-mul_left g.clusters (pow_pos g.bits), o.whole, o.short);
        all = f;
      }

  -- the block of cluster k's count
  pub block_in : (k : ℕ) → k < g.clusters → k / per_of g < g.blocks
  block_in k h = rw (← sizes.per, o.is-blocks) (in_block s sizes.all k (omega (arith, o.is-clusters)))

  pub named : (b : ℕ) → b < g.blocks → Named g s b
  named b h = record { entered = omega (arith, o.blocks-read); short = o.short; inside = o.blocks-inside b h }

  pub block_is : (b : ℕ) → be64 s (g.tableat + 8 * b) ≡ block_at s b
  unfolding block_at
  block_is b = rw o.is_tableat

  pub reach : (k : ℕ) → k < g.clusters → Reach g s k
  reach k h =
      record {
        low = omega (arith, o.low);
        high = o.high;
        narrow = o.narrow;
        named = named (k / per_of g) (block_in k h);
        whole = rw (block_is (k / per_of g), o.is-width) (block_aligned s sizes.all (k / per_of g) (rw o.is-blocks at (block_in k h)));
      }

  pub count-is : (k : ℕ) → count_place g s k ≡ count_at s k
  unfolding count_at
  count-is k = rw (block_is, ← sizes.per, o.is-width)

  -- cluster k lies inside the image
  pub inside-at : (k c : ℕ) → k < g.clusters → c ≡ 2 ^ g.bits → k * c + c ≤ length s
  inside-at k c h e = rw (e, o.is-cluster) (cluster_in s sizes.all k (omega (arith, o.is-clusters)))

-- ---- the places of the counts, by the refcount table
module _ (g : Geometry) (s : List ℕ) (k : ℕ) (r : Reach g s k) where
  fill : 2 ^ g.order * per_of g ≡ 8 * 2 ^ g.bits
  fill = fills g.bits g.order (omega (arith, r.low, r.narrow))

  -- all counts of k's block from k's on
  pub row-at : Row g.order (length s) (count_place g s k) (per_of g - k % per_of g)
  row-at =
      let H : ℕ = per_of g in
      let w : ℕ = 2 ^ g.order in
      let p : 0 < H = pow_pos (g.bits + 3 - g.order) in
      let e : k % H + (H - k % H) ≡ H = omega (arith, mod-lt k p) in
      let m : w * (k % H + (H - k % H)) ≡ w * H = ap (λ (x : ℕ). w * x) e in
      record { few = r.narrow; aligned = aligned_next w (8 * be64 s (table_place g k)) (k % H) r.whole; fits = omega (arith, r.named.inside, fill, m) }

  pub count-inside : Inside g.order (length s) (count_place g s k)
  count-inside =
      let H : ℕ = per_of g in
      let p : 0 < H = pow_pos (g.bits + 3 - g.order) in
      rw (mul-zero, add-zero) at (inside-next g.order (length s) (count_place g s k) (H - k % H) 0 r.narrow row-at.aligned row-at.fits (omega (arith, mod-lt k p)))

-- m of them
pub row-part : {o n at m : ℕ} → Row o n at m → (k : ℕ) → k ≤ m → Row o n at k
row-part {o} {n} {at} {m} r k h = record { few = r.few; aligned = r.aligned; fits = omega (arith, r.fits, mul-le-mul_left (2 ^ o) h) }

pub row_inside : {o n at m : ℕ} → Row o n at m → (j : ℕ) → j < m → Inside o n (at + 2 ^ o * j)
row_inside {o} {n} {at} {m} r j h = inside-next o n at m j r.few r.aligned r.fits h
