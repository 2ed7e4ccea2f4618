-- The disk's bytes one L2 table at a time.
-- Assumes nothing.
use Rattle.std.specs.Prelude.{Err, Ok, Result}
use Prim.Native.Nat.{ℕ, ◌+◌, ◌-◌, ◌*◌, ◌/◌, ◌%◌, ◌^◌, ◌≤◌, ◌<◌}
use native.Mathlib.Nat.{add-zero, div-lt_iff_lt-mul, div-add-mod', mod-lt, add-mul, one-mul, mul-le-mul_right}
use native.Mathlib.Omega.{arith}
use mathlib.Core.Path.{◌≡◌, refl, sym, ◌∙◌}
use mathlib.Core.Bool.{Bool, true, false}
use mathlib.Core.List.{List}
use borrow.Author.Tests.{ne_eqb}
use lib.ListN.{length, drop, replicate, length-drop}
use lib.Seq.{length-take-le}
use Rattle.choice.specs.Pick.{each}
use Rattle.endian.specs.Big.{be64, part, splice}
use Rattle.qcow2_spec.specs.Header.{version, cluster_size, per_table}
use Rattle.qcow2_spec.specs.Entries.{place, good_place, good_l1}
use Rattle.qcow2_spec.specs.Guest.{l1_entry, l1_entry_at, entry_way, l2_way, way, way_gives, located, backing_byte, found_byte, guest_byte, guest_bytes}
use Rattle.qcow2_spec.specs.Runs.{moved}
use Rattle.qcow2_spec.specs.Opened.{Opened}
use Rattle.qcow2_spec.specs.declared.Geometry.{Geometry}
use Rattle.qcow2_spec.specs.declared.Found.{Found}
use Rattle.qcow2_spec.specs.declared.Found.TheVariants.{Host, Zeros, Absent}
use Rattle.qcow2_spec.specs.declared.Way.TheVariants.{NoTable}
use Rattle.qcow2_spec.proofs.Facts.{Facts, facts, c_pos, e_pos}
use Rattle.qcow2_spec.proofs.Refers.{placed1}
use Rattle.qcow2_spec.proofs.Numbers.{part8}
use Rattle.qcow2_plain.specs.Plain.{bare, plain}
use Rattle.qcow2_plain.proofs.Plain.{empty-row}
use Rattle.qcow2_found.specs.Entry.{entry_found}
use Rattle.qcow2_found.proofs.Marked.{entry-way, found_plain, found-other, found-empty, found-filled}
use Rattle.qcow2_guest.specs.Rows.{Below, Lent, table_of, row_left}
use Rattle.qcow2_guest.proofs.Numbers.{div_mono}
use Rattle.qcow2_guest.proofs.Pieces.{same-cluster, blank, absent}

-- ---- a later part
pub below_from_lem : (s : List ℕ) (r t x n a m : ℕ) → a + m ≤ n → Below s r t x n → Below s r t (x + a) m
below_from_lem s r t x n a m h b = record { inside = b.inside; ways = λ i l. later i l }
  where
    later : (i : ℕ) → i < m → way s r ((x + a + i) / cluster_size s) ≡ l2_way s t ((x + a + i) / cluster_size s % per_table s)
    later i l = let e : x + a + i ≡ x + (a + i) = omega arith in rw e (b.ways (a + i) (omega arith))

pub lent_from : (s : List ℕ) (r : ℕ) (l : List ℕ) (x n a m : ℕ) → a + m ≤ n → Lent s r l x n → Lent s r l (x + a) m
lent_from s r l x n a m h b = record { whole = b.whole; finds = λ i k. later i k }
  where
    later : (i : ℕ) → i < m
        → located s r (x + a + i) ≡ entry_found (version s) (cluster_size s) (length s) (be64 l (8 * ((x + a + i) / cluster_size s % per_table s))) ((x + a + i) % cluster_size s)
    later i k = let e : x + a + i ≡ x + (a + i) = omega arith in rw e (b.finds (a + i) (omega arith))

-- ---- the table at t, lent as a part of the image
below_lent : (s : List ℕ) (r t x n C : ℕ) → C ≡ cluster_size s → Below s r t x n → Lent s r (part s t C) x n
unfolding located l2_way
below_lent s r t x n C c b = record {
  whole = length-take-le C (drop t s) (simp length-drop (omega (arith, c, b.inside))) ∙ c;
  finds = λ i h. rw (b.ways i h, c) (entry-way _ _ _ _ _ _);
}

-- ---- a piece whose L2 entry e is in the lent table l
no_byte : (backing s : List ℕ) (x : ℕ) (f : Result Found ℕ) → ((k : ℕ) → f ≡ Ok (Host k) → ⊥) → (f ≡ Ok Absent → ⊥) → (j : ℕ) → found_byte backing s x (moved f j) ≡ 0
unfolding found_byte
no_byte backing s x (Ok (Host h)) n z j = absurd (n h refl)
no_byte backing s x (Ok Zeros) n z j = refl
no_byte backing s x (Ok Absent) n z j = absurd (z refl)
no_byte backing s x (Err k) n z j = refl

module _ (g : Geometry) (s l : List ℕ) (o : Opened g s) (x : ℕ) (b : Lent s g.root l x 1) (i e : ℕ) (p : i ≡ x / 2 ^ g.bits % 2 ^ (g.bits - 3)) (q : e ≡ be64 l (8 * i)) where
  entry_found_lem : located s g.root x ≡ entry_found (version s) (2 ^ g.bits) (length s) e (x % 2 ^ g.bits)
  entry_found_lem = rw (q, p, o.is-cluster, o.is-per) (rw add-zero at (b.finds 0 (omega arith)))

  pub plain-found : plain (2 ^ g.bits) (length s) e ≡ true → located s g.root x ≡ Ok (Host (bare e + x % 2 ^ g.bits))
  plain-found h = entry_found_lem ∙ found_plain (version s) g.bits (length s) e (x % 2 ^ g.bits) o.low o.short h

  pub empty-found : e ≡ 0 → located s g.root x ≡ Ok Absent
  empty-found z = entry_found_lem ∙ found-empty (version s) (2 ^ g.bits) (length s) e (x % 2 ^ g.bits) z

  pub other-found : plain (2 ^ g.bits) (length s) e ≡ false → (e ≡ 0 → ⊥) → (backing : List ℕ) (j : ℕ) → found_byte backing s (x + j) (moved (located s g.root x) j) ≡ 0
  other-found h z backing j =
      no_byte backing s (x + j) (located s g.root x) (λ k y. found-other (version s) (2 ^ g.bits) (length s) e (x % 2 ^ g.bits) k h (sym entry_found_lem ∙ y))
      (λ y. found-filled (version s) (2 ^ g.bits) (length s) e (x % 2 ^ g.bits) z (sym entry_found_lem ∙ y)) j

-- ---- the same for the table at t
module _ (g : Geometry) (s : List ℕ) (o : Opened g s) (t x : ℕ) (b : Below s g.root t x 1) (i e : ℕ) (p : i ≡ x / 2 ^ g.bits % 2 ^ (g.bits - 3)) (q : e ≡ be64 s (t + 8 * i)) where
  pub found : way_gives (entry_way g.version (2 ^ g.bits) (length s) (t + 8 * i) e) (x % 2 ^ g.bits) ≡ located s g.root x
  found =
      let h : i < per_table s = rw p (rw o.is-per (mod-lt _ (e_pos s (facts s o.accepted)))) in
      let d : e ≡ be64 (part s t (2 ^ g.bits)) (8 * i) = q ∙ sym (part8 s t (2 ^ g.bits) (8 * i) (rw o.is-cluster (omega (arith, o.eight)))) in
      entry-way _ _ _ _ _ _ ∙ rw o.is-version (sym (entry_found_lem g s _ o x (below_lent s g.root t x 1 (2 ^ g.bits) o.is-cluster b) i e p d))

-- ---- bytes with one L1 entry
-- x has its own L1 entry
pub row-left-some : (C E x : ℕ) → 0 < C → 0 < E → 0 < row_left C E x
unfolding row_left
row-left-some C E x c e =
    let l : x / C % E < E = mod-lt (x / C) e in
    omega (arith, mod-lt x c, mul-le-mul_right C (one_left l), one-mul C)
  where
    one_left : {a : ℕ} → a < E → 1 ≤ E - a
    one_left h = omega arith

-- the guest cluster of a later byte
later_cluster : (C E x i : ℕ) → 0 < C → 0 < E → i < row_left C E x → (x + i) / C / E ≡ x / C / E
unfolding row_left
later_cluster C E x i c e h =
    let q : ℕ = x / C in
    let y : ℕ = (x + i) / C in
    let low : q ≤ y = div_mono C x (x + i) c (omega arith) in
    let d : (q + (E - q % E)) * C ≡ q * C + (E - q % E) * C = add-mul q (E - q % E) C in
    let high : y < q + (E - q % E) = (div-lt_iff_lt-mul c).1 (omega (arith, div-add-mod' x C, d)) in
    let r : q % E < E = mod-lt q e in
    let k : q + (y - q) ≡ y = omega arith in
    rw (← k) (same-cluster E q (y - q) (omega (arith, high, r, low)))

-- the way by the place of the L2 table that the L1 entry e names
module _ (s : List ℕ) (r guest e : ℕ) (q : l1_entry s r guest ≡ e) where
  abbrev t : ℕ
  t = table_of (cluster_size s) (length s) e

  table-way : Facts s → (t ≡ 0 → ⊥) → (way s r guest ≡ l2_way s t (guest % per_table s)) × (t + cluster_size s ≤ length s)
  unfolding table_of way
  table-way f z = go (good_l1 (cluster_size s) (length s) e) refl
    where
      go : (b : Bool) → good_l1 (cluster_size s) (length s) e ≡ b → (way s r guest ≡ l2_way s t (guest % per_table s)) × (t + cluster_size s ≤ length s)
      go true h =
          let p : t ≡ place e = rw h in
          (rw (q, h, ne_eqb (place e) 0 (λ y. z (p ∙ y))), rw h (placed1 s f e h).inside)
      go false h = absurd (z (rw h))

  -- none is named, or the entry is bad
  way-none : e ≡ 0 → way s r guest ≡ Ok NoTable
  unfolding way good_l1 good_place place
  way-none z = rw (q, z)

  way-bad : (e ≡ 0 → ⊥) → t ≡ 0 → way s r guest ≡ Err 12
  unfolding table_of way
  way-bad n z = go (good_l1 (cluster_size s) (length s) e) refl
    where
      go : (b : Bool) → good_l1 (cluster_size s) (length s) e ≡ b → way s r guest ≡ Err 12
      go true h = let p : place e ≡ 0 = rw h at z in absurd (n (empty-row (cluster_size s) (length s) e h p))
      go false h = rw (q, h)

module _ (g : Geometry) (s : List ℕ) (o : Opened g s) (x n : ℕ) (h : n ≤ row_left (2 ^ g.bits) (2 ^ (g.bits - 3)) x) where
  pub same_row : (i : ℕ) → i < n → l1_entry s g.root ((x + i) / cluster_size s) ≡ l1_entry s g.root (x / cluster_size s)
  unfolding l1_entry l1_entry_at
  same_row i l =
      let f = facts s o.accepted in
      let k : n ≤ row_left (cluster_size s) (per_table s) x = rw (o.is-cluster, o.is-per) at h in
      rw (later_cluster (cluster_size s) (per_table s) x i (c_pos s f) (e_pos s f) (omega arith))

  -- their L1 entry e
  module _ (e : ℕ) (q : e ≡ l1_entry s g.root (x / 2 ^ g.bits)) where
    row-entry : l1_entry s g.root (x / cluster_size s) ≡ e
    row-entry = rw (← o.is-cluster) (sym q)

    row-own : (i : ℕ) → i < n → l1_entry s g.root ((x + i) / cluster_size s) ≡ e
    row-own i l = same_row i l ∙ row-entry

    pub row-absent : e ≡ 0 → (backing : List ℕ) → each (backing_byte backing s) x n ≡ guest_bytes backing s g.root x n
    unfolding located way_gives
    row-absent z backing = absent backing s g.root x n (λ i l. rw (way-none s g.root ((x + i) / cluster_size s) e (row-own i l) z))

    -- the L2 table at t
    module _ (t : ℕ) (d : t ≡ table_of (2 ^ g.bits) (length s) e) where
      pub row_blank : (e ≡ 0 → ⊥) → t ≡ 0 → (backing l : List ℕ) → length l ≡ n → splice l 0 (replicate (length l) 0) ≡ guest_bytes backing s g.root x (length l)
      unfolding guest_byte located way_gives found_byte
      row_blank y z backing l w =
          let p : table_of (cluster_size s) (length s) e ≡ 0 = rw o.is-cluster at (sym d ∙ z) in
          blank backing s g.root x l (λ i k. rw (way-bad s g.root ((x + i) / cluster_size s) e (row-own i (omega arith)) y p))

      module _ (z : t ≡ 0 → ⊥) where
        row_below : Below s g.root t x n
        row_below =
            let f = facts s o.accepted in
            let p : t ≡ table_of (cluster_size s) (length s) e = rw o.is-cluster at d in
            let y : table_of (cluster_size s) (length s) e ≡ 0 → ⊥ = λ u. z (p ∙ u) in
            rw p (record {
              inside = (table-way s g.root (x / cluster_size s) e row-entry f y).1;
              ways = λ i l. (table-way s g.root ((x + i) / cluster_size s) e (row-own i l) f y).0;
            })

        pub row_inside : t + 2 ^ g.bits ≤ length s
        row_inside = rw o.is-cluster row_below.inside

        pub row_lent : (m : ℕ) → m ≡ 2 ^ g.bits → Lent s g.root (part s t m) x n
        row_lent m w = below_lent s g.root t x n m (w ∙ o.is-cluster) row_below
