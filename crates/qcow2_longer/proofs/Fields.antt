-- Where the bytes that extending stores lie, and that every image of the series has the header fields of the first. Assumes nothing.
use Prim.Native.Nat.{ℕ, zero, suc, ◌+◌, ◌-◌, ◌*◌, ◌/◌, ◌≤◌, ◌<◌}
use native.Mathlib.Nat.{mul-le-mul_right}
use native.Mathlib.Decide.{ℕ_discrete, dec_le, dec_lt}
use native.Mathlib.Omega.{arith}
use mathlib.Core.Path.{◌≡◌, sym, ap, ap₂, subst}
use mathlib.Core.Logic.{◌⊎◌, inl, inr}
use mathlib.Core.List.{List}
use lib.ListN.{get_or, replicate}
use Rattle.choice.specs.Pick.{ceil_div}
use Rattle.widths.specs.Width.{stored}
use Rattle.tally.specs.Tally.{run}
use Rattle.endian.specs.Big.{be64}
use Rattle.qcow2_spec.specs.Header.{version, cluster_size, width, per_block, blocks, table_at, table_clusters, block_at, header_number}
use Rattle.qcow2_spec.proofs.Fields.{Field, version-same, size_same, width_same, per_block-same, table_at_same, table_clusters-same, blocks-same, header-same}
use Rattle.qcow2_longer.specs.Extend.{old_blocks, new_blocks, new_place, new_block}
use Rattle.qcow2_longer.proofs.Between.{slot, New, Room, Apart, Between}

-- what t's plan is worked out from is s's, but for the table's entries
pub record SameFields (s : List ℕ) (old : ℕ) (t : List ℕ) : Type 0 where
  pub version-is : version t ≡ version s
  pub size_is : cluster_size t ≡ cluster_size s
  pub width_is : width t ≡ width s
  pub per_block-is : per_block t ≡ per_block s
  pub table_at_is : table_at t ≡ table_at s
  pub table_clusters-is : table_clusters t ≡ table_clusters s
  pub blocks_is : blocks t ≡ blocks s
  pub header_is : header_number t ≡ header_number s
  pub old_blocks-is : old_blocks t old ≡ old_blocks s old
  pub new_blocks-is : new_blocks t old ≡ new_blocks s old
  pub new_place-is : (i : ℕ) → new_place t i ≡ new_place s i
  pub new_block-is : new_block t ≡ new_block s
  pub block_at_is : (i : ℕ) → block_at t i ≡ be64 t (slot s i)

-- a new block that has P, or all have Q
pub new_either : (s : List ℕ) (old : ℕ) (P Q : ℕ → Type 0) → ((i : ℕ) → New s old i → P i ⊎ Q i)
    → ((i : ℕ) × New s old i × P i) ⊎ ((i : ℕ) → New s old i → Q i)
new_either s old P Q f = last (below (blocks s))
  where
    Found : Type 0
    Found = (i : ℕ) × New s old i × P i

    Below : ℕ → Type 0
    Below k = (i : ℕ) → New s old i → i < k → Q i

    next : (k : ℕ) → Below k → (New s old k → Q k) → Below (suc k)
    next k h q i n l = go (ℕ_discrete i k)
      where
        go : Dec (i ≡ k) → Q i
        go (yes e) = subst Q (sym e) (q (subst (New s old) e n))
        go (no d) = h i n (omega arith)

    one : (k : ℕ) → Below k → Dec (old_blocks s old ≤ k) → Dec (k < blocks s) → Found ⊎ Below (suc k)
    one k h (yes l) (yes m) = go (f k (l, m))
      where
        go : P k ⊎ Q k → Found ⊎ Below (suc k)
        go (inl p) = inl (k, (l, m), p)
        go (inr q) = inr (next k h (λ n. q))
    one k h (yes l) (no m) = inr (next k h (λ n. absurd (m n.1)))
    one k h (no l) m = inr (next k h (λ n. absurd (l n.0)))

    below : (k : ℕ) → Found ⊎ Below k
    below zero = inr (λ i n l. absurd (omega arith))
    below (suc k) = go (below k)
      where
        go : Found ⊎ Below k → Found ⊎ Below (suc k)
        go (inl x) = inl x
        go (inr h) = one k h (dec_le (old_blocks s old) k) (dec_lt k (blocks s))

    last : Found ⊎ Below (blocks s) → Found ⊎ ((i : ℕ) → New s old i → Q i)
    last (inl x) = inl x
    last (inr h) = inr (λ i n. h i n n.1)

module _ {s : List ℕ} {old : ℕ} (r : Room s old) where
  -- ---- where things lie
  -- the header, the autoclear field aside
  head_apart : (x : ℕ) → x < 512 → (x < 88) ⊎ (96 ≤ x) → Apart s old x
  head_apart x l h =
      record {
        field = h;
        slots = λ i n. inl (omega (arith, r.head, r.past));
        fills = λ i n. inl (omega (arith, r.head, r.past, r.table_in i n.1, r.place-past i n));
      }

  -- the table's entries lie past the header and before the new blocks
  pub slot-past : (i : ℕ) → 512 ≤ slot s i
  slot-past i = omega (arith, r.head, r.past)

  pub slot-before : (i j : ℕ) → i < blocks s → New s old j → slot s i + 8 ≤ new_place s j
  slot-before i j l n = omega (arith, r.table_in i l, r.place-past j n)

  pub place-pos : (i : ℕ) → New s old i → 512 ≤ new_place s i
  place-pos i n = omega (arith, slot-past i, slot-before i i n.1 n)

  -- new blocks do not overlap
  pub places-apart : (i j : ℕ) → i < j → new_place s i + cluster_size s ≤ new_place s j
  unfolding new_place
  places-apart i j l =
      let h : i * per_block s + 1 ≤ j * per_block s = omega (arith, mul-le-mul_right (per_block s) l, r.counts) in
      omega (arith, mul-le-mul_right (cluster_size s) h)

  -- ---- the fields
  module _ {t : List ℕ} (b : Between s old t) where
    same_byte : (x : ℕ) → Field 0 0 x 1 → get_or t x 0 ≡ get_or s x 0
    same_byte x (inl (inl h)) = b.same x (head_apart x (omega arith) (inl (omega arith)))
    same_byte x (inl (inr h)) = b.same x (head_apart x (omega arith) (inr h.0))
    same_byte x (inr h) = absurd (omega arith)

    old_blocks-same : old_blocks t old ≡ old_blocks s old
    unfolding old_blocks
    old_blocks-same = ap₂ (λ (c p : ℕ). ceil_div (old / c) p) (size_same s t 0 0 same_byte) (per_block-same s t 0 0 same_byte)

    new_blocks-same : new_blocks t old ≡ new_blocks s old
    unfolding new_blocks
    new_blocks-same = ap₂ (λ (o n : ℕ). run o (n - o)) old_blocks-same (blocks-same s t 0 0 same_byte b.len)

    new_place-same : (i : ℕ) → new_place t i ≡ new_place s i
    unfolding new_place
    new_place-same i = ap₂ (λ (p c : ℕ). i * p * c) (per_block-same s t 0 0 same_byte) (size_same s t 0 0 same_byte)

    new_block-same : new_block t ≡ new_block s
    unfolding new_block
    new_block-same = ap₂ (λ (w c : ℕ). stored w (replicate c 0) 0 1) (width_same s t 0 0 same_byte) (size_same s t 0 0 same_byte)

    block_at_same : (i : ℕ) → block_at t i ≡ be64 t (slot s i)
    unfolding block_at
    block_at_same i = ap (λ (p : ℕ). be64 t (p + 8 * i)) (table_at_same s t 0 0 same_byte)

    pub fields : SameFields s old t
    fields =
        record {
          version-is = version-same s t 0 0 same_byte;
          size_is = size_same s t 0 0 same_byte;
          width_is = width_same s t 0 0 same_byte;
          per_block-is = per_block-same s t 0 0 same_byte;
          table_at_is = table_at_same s t 0 0 same_byte;
          table_clusters-is = table_clusters-same s t 0 0 same_byte;
          blocks_is = blocks-same s t 0 0 same_byte b.len;
          header_is = header-same s t 0 0 same_byte b.len;
          old_blocks-is = old_blocks-same;
          new_blocks-is = new_blocks-same;
          new_place-is = new_place-same;
          new_block-is = new_block-same;
          block_at_is = block_at_same;
        }
