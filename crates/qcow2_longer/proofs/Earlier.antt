-- The earlier bytes alone are an accepted image, and the whole has none of the numbers 1 to 9 and 18: the fields of the two, where the tables and the
-- new blocks lie, and what the new blocks' entries are. Assumes nothing.
use Prim.Native.Nat.{ℕ, zero, suc, ◌+◌, ◌-◌, ◌*◌, ◌/◌, ◌%◌, ◌^◌, ◌≤◌, ◌<◌}
use native.Mathlib.Nat.{le-div_iff_mul-le, mul-le-mul_right, mul-mod_left, mod-eq_of_lt, zero-mul, add-zero, zero-add, div-add-mod', zero-lt-suc}
use native.Mathlib.Decide.{dec_lt, ℕ_discrete}
use native.Mathlib.Omega.{arith}
use mathlib.Core.Path.{◌≡◌, refl, sym, ap, ap₂, ◌∙◌}
use mathlib.Core.Logic.{inl, inr}
use mathlib.Core.Bool.{true}
use mathlib.Core.List.{List}
use lib.Dec.{eqb}
use lib.ListN.{length, get_or, take, drop, length-take, get_or-eq_default}
use borrow.Author.Tests.{eqb-true}
use Rattle.choice.specs.Pick.{all, ceil_div}
use Rattle.choice.proofs.Tests.{and-true}
use Rattle.endian.specs.Big.{be32, be64, entries}
use Rattle.endian.proofs.Laws.{be32-same, be64-same, part_same}
use Rattle.endian.proofs.Entries.{be64-drop, drop-entries}
use Rattle.qcow2_spec.specs.Header.{cluster_size, clusters, per_block, blocks, per_table, table_at, table_clusters, table, block_at, good_block, good_table, header_number, snapshots, snapshots_at, snapshot_at}
use Rattle.qcow2_spec.proofs.Facts.{Facts, Headed, headed, all-entries, up_le, le_up, cover_law, block_named, power, c_8, c_big, c_pos, h_pos, n_whole, n_pos, shot_start}
use Rattle.qcow2_spec.proofs.Fields.{Field, size_same, table_at_same, table_clusters-same, per_table-same, per_block-same}
use Rattle.qcow2_spec.specs.Series.{Bytes}
use Rattle.qcow2_longer.specs.Extend.{old_blocks, new_place}
use Rattle.qcow2_longer.proofs.Between.{slot, New, Room}

-- a multiple of C that is not 0 is no less than C
multiple_least : (n C : ℕ) → 0 < n → n % C ≡ 0 → C ≤ n
multiple_least n C h e = go (dec_lt n C)
  where
    go : Dec (n < C) → C ≤ n
    go (yes l) = absurd (omega (arith, mod-eq_of_lt {n = n} {m = C} l))
    go (no l) = omega arith

-- a cluster is whole sectors
pub whole-sectors : (s : List ℕ) → Facts s → (x : ℕ) → x % cluster_size s ≡ 0 → x % 512 ≡ 0
whole-sectors s f x h =
    let q = x / cluster_size s in
    let D = 2 ^ (be32 s 20 - 9) in
    let p : x ≡ q * D * 512 = omega (arith, div-add-mod' x (cluster_size s), h, ap (λ (y : ℕ). q * y) (power s f)) in
    rw p (mul-mod_left (q * D) 512)

module _ (s : List ℕ) (old : ℕ) (n : old ≤ length s) where
  pub length-earlier : length (take old s) ≡ old
  length-earlier = length-take old s ∙ omega arith

  pub byte-earlier : (x : ℕ) → x < old → get_or s x 0 ≡ get_or (take old s) x 0
  byte-earlier x l =
      let p : get_or (take old s) (x + 0) 0 ≡ get_or s (0 + x + 0) 0 = part_same s 0 old x 1 (omega arith) 0 (omega arith) in
      ap (λ (y : ℕ). get_or s y 0) (sym (add-zero (0 + x) ∙ zero-add x)) ∙ sym p ∙ ap (λ (y : ℕ). get_or (take old s) y 0) (add-zero x)

  pub bytes-earlier : Bytes s → Bytes (take old s)
  bytes-earlier b x = go (dec_lt x old)
    where
      go : Dec (x < old) → get_or (take old s) x 0 < 256
      go (yes l) = rw (← byte-earlier x l) (b x)
      go (no l) = rw (get_or-eq_default (take old s) 0 {n = x} (omega (arith, length-earlier))) (zero-lt-suc 255)

  module _ (f : Facts (take old s)) where
    abbrev o : List ℕ
    o = take old s

    abbrev a : ℕ
    a = snapshots_at o

    abbrev b : ℕ
    b = snapshot_at o (snapshots o)

    -- what a field is read from are earlier bytes
    pub field-earlier : (x : ℕ) → Field a b x 1 → x < old
    field-earlier x (inl (inl h)) = omega (arith, f.long, length-earlier)
    field-earlier x (inl (inr h)) = omega (arith, f.long, length-earlier)
    field-earlier x (inr h) = go (snapshots o) refl
      where
        go : (k : ℕ) → snapshots o ≡ k → x < old
        go zero e = let z : snapshot_at o (snapshots o) ≡ snapshots_at o = ap (snapshot_at o) e ∙ shot_start o f in absurd (omega (arith, h))
        go (suc k) e =
            let z : snapshot_at o (snapshots o) ≡ snapshot_at o (suc k) = ap (snapshot_at o) e in
            omega (arith, h, (f.shots k (omega arith)).ends, length-earlier)

    pub same-field : (x : ℕ) → Field a b x 1 → get_or s x 0 ≡ get_or o x 0
    same-field x h = byte-earlier x (field-earlier x h)

    pub earlier-size : cluster_size s ≡ cluster_size o
    earlier-size = size_same o s a b same-field

    pub earlier-per : per_block s ≡ per_block o
    earlier-per = per_block-same o s a b same-field

    pub earlier-table : table_at s ≡ table_at o
    earlier-table = table_at_same o s a b same-field

    earlier-span : table_clusters s * per_table s ≡ table_clusters o * per_table o
    earlier-span = ap₂ (λ (x y : ℕ). x * y) (table_clusters-same o s a b same-field) (per_table-same o s a b same-field)

    pub earlier-blocks : old_blocks s old ≡ blocks o
    unfolding old_blocks blocks clusters
    earlier-blocks = rw (earlier-size, earlier-per, length-earlier) refl

    -- eight earlier bytes
    pub number-earlier : (x : ℕ) → x + 8 ≤ old → be64 s x ≡ be64 o x
    number-earlier x l = be64-same s x o x (λ k h. byte-earlier (x + k) (omega arith))

    -- the table has room for so many entries, in the earlier bytes
    pub table-earlier : (i : ℕ) → i < table_clusters o * per_table o → slot o i + 8 ≤ old
    table-earlier i l =
        let e : table_clusters o * cluster_size o ≡ table_clusters o * (8 * per_table o) = ap (λ (x : ℕ). table_clusters o * x) (c_8 o f) in
        omega (arith, f.table_in, length-earlier)

    abbrev K : ℕ
    K = table_clusters o * per_table o

    abbrev es : List ℕ
    es = entries K (drop (table_at o) o)

    later : all (λ e. eqb e 0) (drop (blocks o) es) ≡ true
    unfolding good_table table
    later = (and-true (all (good_block (cluster_size o) (length o)) (take (blocks o) es)) _ f.named).1

    -- the entries after the old B are 0
    pub later_zero : (i : ℕ) → blocks o ≤ i → i < table_clusters o * per_table o → be64 s (slot s i) ≡ 0
    later_zero i l h = rw earlier-table (number-earlier (slot o i) (table-earlier i h) ∙ zeros)
      where
        zeros : be64 o (slot o i) ≡ 0
        zeros =
            let p = all-entries (λ e. eqb e 0) (K - blocks o) (drop (8 * blocks o) (drop (table_at o) o)) (rw (drop-entries (blocks o) K (drop (table_at o) o) f.enough) at later) (i - blocks o) (omega arith) in
            let q : 8 * blocks o + 8 * (i - blocks o) ≡ 8 * i = omega arith in
            ap (λ (x : ℕ). be64 o (table_at o + x)) (sym q) ∙ sym (be64-drop o (table_at o) (8 * blocks o + 8 * (i - blocks o))) ∙ sym (be64-drop (drop (table_at o) o) (8 * blocks o) (8 * (i - blocks o))) ∙ eqb-true _ _ p

    -- ---- the whole
    module _ (e : header_number s ≡ 0) where
      whole : Headed s
      whole = headed s e

      c_s : 0 < cluster_size s
      c_s = rw earlier-size (c_pos o f)

      h_s : 0 < per_block s
      h_s = rw earlier-per (h_pos o f)

      clusters-whole : clusters s * cluster_size s ≡ length s
      unfolding clusters
      clusters-whole = omega (arith, div-add-mod' (length s) (cluster_size s), whole.whole)

      pub clusters-more : clusters o ≤ clusters s
      unfolding clusters
      clusters-more = (le-div_iff_mul-le {k = cluster_size s} {x = length o / cluster_size o} {y = length s} c_s).1 (rw earlier-size (omega (arith, n_whole o f, length-earlier)))

      old_some : 1 ≤ blocks o
      old_some = go (blocks o) refl
        where
          go : (k : ℕ) → blocks o ≡ k → 1 ≤ blocks o
          go zero z = absurd (omega (arith, n_pos o f, cover_law o (h_pos o f), ap (λ (x : ℕ). x * per_block o) z, zero-mul (per_block o)))
          go (suc k) z = omega arith

      fewer_blocks : blocks o ≤ blocks s
      unfolding blocks
      fewer_blocks = le_up (clusters o) (per_block o) (ceil_div (clusters s) (per_block s)) (h_pos o f) (rw (← earlier-per) (omega (arith, clusters-more, up_le (clusters s) (per_block s) h_s)))

      first_entry : table_at o ≡ 0 → block_at o 0 ≡ be64 o 0
      unfolding block_at
      first_entry z = ap (λ (x : ℕ). be64 o (x + 8 * 0)) z

      large : be64 o 0 ≡ be32 o 0 * 4294967296 + be32 o 4
      unfolding be64
      large = refl

      magical : be32 o 0 ≡ 0x514649FB
      magical = sym (be32-same s 0 o 0 (λ k h. byte-earlier (0 + k) (omega (arith, f.long, length-earlier)))) ∙ whole.magical

      -- entry 0 of a table at the header would be no place in the image
      table-past : cluster_size o ≤ table_at o
      table-past = go (ℕ_discrete (table_at o) 0)
        where
          go : Dec (table_at o ≡ 0) → cluster_size o ≤ table_at o
          go (yes z) = absurd (omega (arith, first_entry z, large, magical, (block_named o f 0 old_some).1.1, f.small))
          go (no d) = multiple_least (table_at o) (cluster_size o) (omega arith) f.table-whole

      places : (i : ℕ) → new_place s i ≡ i * per_block s * cluster_size s
      unfolding new_place
      places i = refl

      past : (i : ℕ) → blocks o ≤ i → old ≤ i * per_block o * cluster_size o
      past i l =
          omega (arith, n_whole o f, length-earlier, mul-le-mul_right (cluster_size o) (cover_law o (h_pos o f)), mul-le-mul_right (cluster_size o) (mul-le-mul_right (per_block o) l))

      -- block i covers a cluster
      pub covers : (i : ℕ) → i < blocks s → i * per_block s < clusters s
      unfolding blocks
      covers i l = go (dec_lt (i * per_block s) (clusters s))
        where
          go : Dec (i * per_block s < clusters s) → i * per_block s < clusters s
          go (yes h) = h
          go (no h) = absurd (omega (arith, l, le_up (clusters s) (per_block s) i h_s (omega arith)))

      inside : (i : ℕ) → i < blocks s → i * per_block s * cluster_size s + cluster_size s ≤ length s
      inside i l = omega (arith, mul-le-mul_right (cluster_size s) (covers i l), clusters-whole)

      pub room : Room s old
      room =
          record {
            head = rw earlier-size (c_big o f);
            counts = h_s;
            some = rw earlier-blocks old_some;
            fewer = rw earlier-blocks fewer_blocks;
            long = n;
            past = rw (earlier-size, earlier-table) table-past;
            table_in = λ i l. rw earlier-table (table-earlier i (omega (arith, l, whole.enough, earlier-span)));
            place-past = λ i w. rw (places i, earlier-per, earlier-size) (past i (rw (← earlier-blocks) w.0));
            place_in = λ i w. rw (places i) (inside i w.1);
            place-small = λ i w. rw (places i) (omega (arith, inside i w.1, whole.small));
          }

      pub enough : blocks s ≤ table_clusters o * per_table o
      enough = omega (arith, whole.enough, earlier-span)

      -- the table has an entry for every new block
      pub new_few : (i : ℕ) → New s old i → i < table_clusters o * per_table o
      new_few i w = omega (arith, w.1, whole.enough, earlier-span)

      -- every new block is still to be made
      pub new_zero : (i : ℕ) → New s old i → be64 s (slot s i) ≡ 0
      new_zero i w = later_zero i (rw (← earlier-blocks) w.0) (new_few i w)
