-- Laws of the refcount blocks and of the counts that stand in them.
-- Assumes nothing.
use Prim.Native.Nat.{ℕ, suc, ◌+◌, ◌-◌, ◌*◌, ◌/◌, ◌%◌, ◌^◌, ◌≤◌, ◌<◌, min}
use mathlib.Core.Path.{◌≡◌, refl, sym, ap, ◌∙◌}
use mathlib.Core.Bool.{true}
use mathlib.Core.List.{List}
use native.Mathlib.Nat.{mul-le-mul_left, add-zero, zero-add, one-mul, mod-lt, div-add-mod', mul-add, add-mul, suc-mul, mul-add-div_right, mul-add-mod_self_right, div-eq_of_lt, mod-eq_of_lt, le-div_iff_mul-le}
use native.Mathlib.Omega.{arith}
use lib.Dec.{eqb}
use lib.ListN.{length, take, drop}
use lib.Pow.{pow_pos}
use Rattle.choice.specs.Pick.{ceil_div, count}
use Rattle.choice.proofs.Searches.{count_same}
use Rattle.widths.specs.Width.{number, Inside}
use Rattle.widths.proofs.Cells.{number-part, aligned_next, inside-next, inside-first}
use Rattle.packed.specs.Packed.{packed, zero_at}
use Rattle.qcow2_spec.specs.Header.{width, per_block, blocks, block_at, judge_lent}
use Rattle.qcow2_spec.proofs.Facts.{facts, block_aligned}
use Rattle.qcow2_spec.specs.Counts.{count_of, count_at, free_at}
use Rattle.qcow2_spec.specs.Opened.{Opened}
use Rattle.qcow2_spec.specs.declared.Geometry.{Geometry}
use Rattle.qcow2_counts.specs.Blocks.{Packed}

-- the counts of a block's clusters stand in it, one by one
pub block_stands : (s : List ℕ) (w per b j at : ℕ) → w ≡ width s → per ≡ per_block s → at ≡ block_at s b → j < per → count_of s (b * per + j) ≡ number w s (8 * at + w * j)
unfolding count_of count_at
block_stands s w per b j at v e f h =
    let pos : 0 < per = omega arith in
    let d : (b * per + j) / per ≡ b = mul-add-div_right pos b j ∙ rw (div-eq_of_lt h, add-zero) in
    let m : (b * per + j) % per ≡ j = mul-add-mod_self_right b per j ∙ mod-eq_of_lt h in
    rw (← e, ← v, d, m, f)

-- n of its clusters, from index j on
pub packed-part : {o : ℕ} {s : List ℕ} {base m at : ℕ} → Packed o s base m at → (j n to : ℕ) → to ≡ at + 2 ^ o * j → j + n ≤ m → Packed o s (base + j) n to
packed-part {o} {s} {base} {m} {at} p j n to e l =
    record {
      narrow = p.narrow;
      short = p.short;
      aligned = rw e (aligned_next (2 ^ o) at j p.aligned);
      inside = omega (arith, p.inside, mul-le-mul_left (2 ^ o) l, mul-add (2 ^ o) j n);
      stands = λ i k. let d : base + j + i ≡ base + (j + i) = omega arith in
          let f : to + 2 ^ o * i ≡ at + 2 ^ o * (j + i) = omega (arith, mul-add (2 ^ o) j i) in
          rw (d, f) (p.stands (j + i) (omega arith));
    }

-- one of them
pub packed-inside : {o : ℕ} {s : List ℕ} {base m at : ℕ} → Packed o s base m at → (j : ℕ) → j < m → Inside o (length s) (at + 2 ^ o * j)
packed-inside {o} {s} {base} {m} {at} p j h = inside-next o (length s) at m j p.narrow p.aligned p.inside h

-- the free clusters of a block are the zeros in it, where it is lent as a part T of the image
pub block_free : (s T : List ℕ) (o C b at m : ℕ) → o ≤ 6 → 2 ^ o ≡ width s → T ≡ take C (drop at s) → at ≡ block_at s b → 2 ^ o * m ≤ 8 * C → m ≤ per_block s
    → count (zero_at o T) 0 m ≡ count (free_at s) (b * per_block s) m
unfolding zero_at packed free_at
block_free s T o C b at m lo v e f h g = count_same (zero_at o T) (free_at s) 0 (b * per_block s) m same
  where
    same : (j : ℕ) → j < m → zero_at o T (0 + j) ≡ free_at s (b * per_block s + j)
    same j k =
        let l : number (2 ^ o) T (2 ^ o * j) ≡ number (2 ^ o) s (8 * at + 2 ^ o * j) = rw e (number-part o C s at (2 ^ o * j) (inside-first o C m j lo h k)) in
        rw zero-add (ap (λ (x : ℕ). eqb x 0) (l ∙ sym (block_stands s (2 ^ o) (per_block s) b j at v refl f (omega arith))))

-- a walk over the blocks, of `per` counts each: where it has come to block b it is at the cluster k
module _ {g : Geometry} {s : List ℕ} (o : Opened g s) (per : ℕ) (e : per ≡ 2 ^ (g.bits + 3 - g.order)) where
  pub per-is : per ≡ per_block s
  per-is = e ∙ o.is-counts

  pub some-per : 0 < per
  some-per = rw e (pow_pos (g.bits + 3 - g.order))

  below : (b N : ℕ) → b * per < N → b < ceil_div N per
  below b N h = (le-div_iff_mul-le {k = per} {x = suc b} {y = N + (per - 1)} some-per).1 (rw suc-mul (omega (arith, some-per)))

  pub at_block : (b k : ℕ) → k ≡ min (b * per) g.clusters → k < g.clusters → (b < g.blocks) × (k ≡ b * per)
  unfolding blocks
  at_block b k f h =
      let l : k ≡ b * per = omega arith in
      (rw (o.is-blocks, ← o.is-clusters, ← per-is) (below b g.clusters (omega arith)), l)

  -- m counts of a block
  pub block_bits : (m : ℕ) → m ≤ per → 2 ^ g.order * m ≤ 8 * 2 ^ g.bits
  block_bits m h =
      let p : 2 ^ g.order * per ≡ 8 * 2 ^ g.bits = rw (per-is, o.is-width, o.is-cluster) (sym o.full) in
      omega (arith, p, mul-le-mul_left (2 ^ g.order) h)

  -- the counts of m clusters of block b
  pub block_packed : (b k m at : ℕ) → k ≡ b * per → m ≤ per → b < g.blocks → at ≡ block_at s b → at + 2 ^ g.bits ≤ length s → Packed g.order s k m (8 * at)
  block_packed b k m at f h i a r =
      record {
        narrow = o.narrow;
        short = o.short;
        aligned = rw a (whole_block o.accepted b (rw o.is-blocks at i));
        inside = omega (arith, r, block_bits m h);
        stands = λ j l. rw f (block_stands s (2 ^ g.order) per b j at o.is-width per-is a (omega arith));
      }
    where
      whole_block : judge_lent true s ≡ 0 → (i : ℕ) → i < blocks s → 8 * block_at s i % 2 ^ g.order ≡ 0
      whole_block acc i l = rw o.is-width (block_aligned s (facts s acc) i l)

pub next_block : (b per N k m : ℕ) → k ≡ min (b * per) N → k < N → m ≡ min per (N - k) → k + m ≡ min ((b + 1) * per) N
next_block b per N k m e h f = let d : (b + 1) * per ≡ b * per + per = rw (add-mul, one-mul) in rw d (omega arith)

-- the next numbers with the same quotient
module _ (i H d : ℕ) (pos : 0 < H) (h : i % H + d < H) where
  apart : i + d ≡ i / H * H + (i % H + d)
  apart = omega (arith, div-add-mod' i H)

  pub run_block : (i + d) / H ≡ i / H
  run_block = rw apart (mul-add-div_right pos (i / H) (i % H + d) ∙ ap (λ (x : ℕ). i / H + x) (div-eq_of_lt h) ∙ add-zero (i / H))

  pub run_index : (i + d) % H ≡ i % H + d
  run_index = rw apart (mul-add-mod_self_right (i / H) H (i % H + d) ∙ mod-eq_of_lt h)

-- the first number with the next quotient
module _ (i H : ℕ) (pos : 0 < H) where
  next-is : i + (H - i % H) ≡ (i / H + 1) * H + 0
  next-is = rw (add-mul, one-mul) (omega (arith, div-add-mod' i H, mod-lt i pos))

  pub next_quotient : (i + (H - i % H)) / H ≡ i / H + 1
  next_quotient = rw next-is (mul-add-div_right pos (i / H + 1) 0 ∙ ap (λ (x : ℕ). i / H + 1 + x) (div-eq_of_lt pos) ∙ add-zero (i / H + 1))

  pub next-rest : (i + (H - i % H)) % H ≡ 0
  next-rest = rw next-is (mul-add-mod_self_right (i / H + 1) H 0 ∙ mod-eq_of_lt pos)
