-- The bytes that the counts of one block cover: how far blocks reach, and how many there are. Assumes nothing.
use Prim.Native.Nat.{ℕ, ◌+◌, ◌-◌, ◌*◌, ◌/◌, ◌^◌, ◌≤◌, ◌<◌}
use native.Mathlib.Nat.{mul_assoc, mul-le-mul, mul-le-mul_right, div-mul-le_self, div-le_of_le-mul}
use native.Mathlib.Omega.{arith}
use mathlib.Core.Path.{◌≡◌, refl}
use mathlib.Core.Bool.{Bool, true, false}
use mathlib.Core.List.{List}
use lib.Dec.{ltb}
use lib.ListN.{length}
use lib.Pow.{pow_pos, pow_mono, shr_mono}
use borrow.Author.Tests.{ltb-true, ltb-false}
use Rattle.choice.specs.Pick.{ceil_div}
use Rattle.qcow2_spec.specs.Header.{most_length, cluster_size, width, per_block, clusters, blocks}
use Rattle.qcow2_spec.specs.Opened.{geometry}
use Rattle.qcow2_spec.specs.declared.Geometry.{Geometry}
use Rattle.qcow2_spec.proofs.Facts.{up_le, le_up, counts_power}
use Rattle.qcow2_longer.specs.Extend.{old_blocks}
use Rattle.qcow2_taken.specs.Taking.{Spaced, Held}

module _ (n C per : ℕ) where
  -- all blocks together reach no more than a block's bytes past the end
  blocks-reach : ceil_div (n / C) per * (per * C) ≤ n + per * C
  blocks-reach =
      let B : ℕ = ceil_div (n / C) per in
      let a : B * per ≤ n / C + per = omega (arith, div-mul-le_self (n / C + (per - 1)) per) in
      omega (arith, mul_assoc B per C, mul-le-mul_right C a, div-mul-le_self n C)

  -- the first cluster that a block covers lies in the image
  block_inside : 0 < per → (i : ℕ) → i < ceil_div (n / C) per → i * (per * C) + C ≤ n
  block_inside p i h =
      let a : i * per + 1 ≤ n / C = go (ltb (i * per) (n / C)) refl in
      omega (arith, mul_assoc i per C, mul-le-mul_right C a, div-mul-le_self n C)
    where
      go : (b : Bool) → ltb (i * per) (n / C) ≡ b → i * per + 1 ≤ n / C
      go true e = omega (arith, ltb-true (i * per) (n / C) e)
      go false e = absurd (omega (arith, le_up (n / C) per i p (ltb-false (i * per) (n / C) e)))

  blocks-few : n ≤ most_length → 512 ≤ C → 64 ≤ per → ceil_div (n / C) per ≤ 32768
  blocks-few h c p =
      let a : n / C ≤ 2097152 = div-le_of_le-mul C (omega (arith, mul-le-mul_right 2097152 c)) in
      le_up (n / C) per 32768 (omega arith) (omega arith)

-- fewer bytes need no more blocks
blocks-less : (m n b per : ℕ) → 0 < per → m ≤ n → ceil_div (m / 2 ^ b) per ≤ ceil_div (n / 2 ^ b) per
blocks-less m n b per p h = le_up (m / 2 ^ b) per _ p (omega (arith, shr_mono b h, up_le (n / 2 ^ b) per p))

-- ---- the same in what the header gives
module _ (g : Geometry) (s : List ℕ) (h : Held g s) where
  is : g ≡ geometry s 0
  is = h.placed.read.is

  pub is-cluster : 2 ^ g.bits ≡ cluster_size s
  unfolding geometry cluster_size
  is-cluster = rw is

  pub is-counts : 2 ^ (g.bits + 3 - g.order) ≡ per_block s
  unfolding geometry cluster_size per_block width
  is-counts = rw (← counts_power g.bits g.order (omega (arith, h.narrow, h.placed.read.low)), is)

  pub is-blocks : g.blocks ≡ ceil_div (length s / 2 ^ g.bits) (2 ^ (g.bits + 3 - g.order))
  unfolding geometry blocks clusters
  is-blocks = rw (is-counts, is-cluster, is)

  pub span-blocks : Spaced g.blocks (2 ^ (g.bits + 3 - g.order) * 2 ^ g.bits)
  span-blocks =
      let p : 2 ^ (g.bits + 3 - g.order) ≤ 2 ^ 24 = pow_mono {i = g.bits + 3 - g.order} {j = 24} (omega (arith, h.placed.read.high)) in
      let q : 2 ^ g.bits ≤ 2 ^ 21 = pow_mono {i = g.bits} {j = 21} h.placed.read.high in
      rw is-blocks (omega (arith, blocks-reach (length s) (2 ^ g.bits) (2 ^ (g.bits + 3 - g.order)), mul-le-mul p q, h.placed.read.short))

  -- the place of block i, where it is new
  pub span-inside : (i : ℕ) → i < g.blocks → i * (2 ^ (g.bits + 3 - g.order) * 2 ^ g.bits) + 2 ^ g.bits ≤ length s
  span-inside i l = block_inside (length s) (2 ^ g.bits) (2 ^ (g.bits + 3 - g.order)) (pow_pos (g.bits + 3 - g.order)) i (rw is-blocks at l)

  pub few-blocks : g.blocks ≤ 32768
  few-blocks =
      let p : 2 ^ 6 ≤ 2 ^ (g.bits + 3 - g.order) = pow_mono {i = 6} {j = g.bits + 3 - g.order} (omega (arith, h.narrow, h.placed.read.low)) in
      let q : 2 ^ 9 ≤ 2 ^ g.bits = pow_mono {i = 9} {j = g.bits} h.placed.read.low in
      rw is-blocks (blocks-few (length s) (2 ^ g.bits) (2 ^ (g.bits + 3 - g.order)) h.placed.read.short q p)

  -- the blocks of the earlier bytes
  pub old_blocks_lem : (old : ℕ) → ceil_div (old / 2 ^ g.bits) (2 ^ g.bits * 8 / 2 ^ g.order) ≡ old_blocks s old
  unfolding old_blocks
  old_blocks_lem old = rw (counts_power g.bits g.order (omega (arith, h.narrow, h.placed.read.low)), is-counts, is-cluster)

  pub old_fewer : (old : ℕ) → old ≤ length s → old_blocks s old ≤ g.blocks
  old_fewer old l =
      rw (← old_blocks_lem old, is-blocks, counts_power g.bits g.order (omega (arith, h.narrow, h.placed.read.low)))
      (blocks-less old (length s) g.bits (2 ^ (g.bits + 3 - g.order)) (pow_pos (g.bits + 3 - g.order)) l)
