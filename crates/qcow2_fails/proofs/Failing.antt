-- Laws of entries that fail: bad ones, or wrong marks.
-- Assumes nothing.
use Rattle.std.specs.Prelude.{if◌then◌else◌}
use Prim.Native.Nat.{ℕ, ◌*◌, ◌/◌, ◌^◌, ◌≤◌, ◌<◌}
use mathlib.Core.Path.{◌≡◌, refl, sym}
use mathlib.Core.Bool.{Bool, true, false, not, ◌||◌}
use mathlib.Core.List.{List}
use native.Mathlib.Omega.{arith}
use borrow.Author.Tests.{eqb-false, ne_eqb, not-false}
use lib.Dec.{eqb}
use lib.ListN.{length}
use Rattle.choice.proofs.Tests.{and-true}
use Rattle.endian.specs.Big.{part}
use Rattle.tally.specs.States.{twos}
use Rattle.qcow2_spec.specs.Header.{version, cluster_size, per_table}
use Rattle.qcow2_spec.specs.Entries.{place, good_l1, good_l2}
use Rattle.qcow2_spec.specs.References.{l2_entries}
use Rattle.qcow2_spec.specs.Check.{table_good, entry_good, bad_in, wrong_marks}
use Rattle.qcow2_spec.specs.Opened.{Opened}
use Rattle.qcow2_spec.specs.declared.Geometry.{Geometry}
use Rattle.qcow2_spec.proofs.Facts.{all-entries}
use Rattle.qcow2_refs.specs.Walks.{row_at, below_at}
use Rattle.qcow2_marks.specs.Marks.{right, Fair}
use Rattle.qcow2_marks.proofs.Fairs.{l1_fair, l2_fair}
use Rattle.qcow2_marks.proofs.Rights.{right_is}
use Rattle.qcow2_fails.specs.Seeks.{seek_of, below_count, Marked}

-- there are L2 entries only where there is a place
pub below-some : (s : List ℕ) (t i j : ℕ) → j < below_count s t i → (place (row_at s t i) ≡ 0 → ⊥) × (j < per_table s)
unfolding below_count
below-some s t i j h = go (eqb (place (row_at s t i)) 0) refl h
  where
    go : (b : Bool) → eqb (place (row_at s t i)) 0 ≡ b → j < (if b then 0 else per_table s) → (place (row_at s t i) ≡ 0 → ⊥) × (j < per_table s)
    go true e k = absurd (omega arith)
    go false e k = (eqb-false (place (row_at s t i)) 0 e, k)

module _ (g : Geometry) (s scratch : List ℕ) (o : Opened g s) where
  abbrev fs : List ℕ
  fs = twos scratch 0 g.clusters

  some : 1 ≤ length s
  some = omega (arith, o.long)

  -- the clusters of a scratch with a figure for each
  pub figures-many : length scratch ≡ 2 * g.clusters → length scratch / 2 ≡ g.clusters
  figures-many h = omega (arith, h)

  -- an L1 entry that is good with all below it
  first_good : (e : ℕ) → entry_good s e ≡ true → good_l1 (2 ^ g.bits) (length s) e ≡ true
  unfolding entry_good
  first_good e h = rw o.is-cluster (and-true (good_l1 (cluster_size s) (length s) e) _ h).0

  pub first_fair : (e : ℕ) → entry_good s e ≡ true → Fair (2 ^ g.bits) g.clusters e
  first_fair e h = l1_fair g.bits (length s) g.clusters e some o.whole (first_good e h)

  -- an entry of the table below one
  pub second_fair : (i j : ℕ) → entry_good s (row_at s g.root i) ≡ true → j < below_count s g.root i → Fair (2 ^ g.bits) g.clusters (below_at s g.root i j)
  unfolding entry_good table_good l2_entries below_at
  second_fair i j h l =
      let e : ℕ = row_at s g.root i in
      let T : List ℕ = part s (place e) (cluster_size s) in
      let G : ℕ → Bool = good_l2 (version s) (cluster_size s) (length s) in
      let w = below-some s g.root i j l in
      let t : (eqb (place e) 0 || table_good s (place e)) ≡ true = (and-true (good_l1 (cluster_size s) (length s) e) _ h).1 in
      let a : table_good s (place e) ≡ true = rw (ne_eqb (place e) 0 w.0) at t in
      l2_fair g.bits (length s) g.clusters (below_at s g.root i j) some o.whole (version s) (rw o.is-cluster (all-entries G (per_table s) T a j w.1))

  -- where an L1 entry does not fail, it is good
  pub row-good : (marks : Bool) (i : ℕ) → i < g.l1size → Marked marks s scratch g.root g.clusters g.l1size
      → not ((seek_of marks s fs g.root).good1 (row_at s g.root i)) ≡ false → good_l1 (2 ^ g.bits) (length s) (row_at s g.root i) ≡ true
  unfolding bad_in
  row-good true i l m h = first_good (row_at s g.root i) ((m refl).1 i l)
  row-good false i l m h = rw o.is-cluster (not-false _ h)

  -- whether it fails
  pub row-marks : (e : ℕ) → entry_good s e ≡ true → (wrong_marks s fs).good1 e ≡ right (2 ^ g.bits) scratch e
  unfolding wrong_marks
  row-marks e h = right_is s scratch (2 ^ g.bits) g.clusters e o.is-cluster (first_fair e h)

  pub row_bads : (e : ℕ) → (bad_in s g.root).good1 e ≡ good_l1 (2 ^ g.bits) (length s) e
  unfolding bad_in
  row_bads e = rw o.is-cluster

  -- whether an entry below it fails
  pub below_fails : (marks : Bool) (i j : ℕ) → i < g.l1size → j < below_count s g.root i → Marked marks s scratch g.root g.clusters g.l1size
      → (if marks then right (2 ^ g.bits) scratch (below_at s g.root i j) else good_l2 g.version (2 ^ g.bits) (length s) (below_at s g.root i j))
      ≡ (seek_of marks s fs g.root).good2 (below_at s g.root i j)
  unfolding bad_in wrong_marks
  below_fails true i j l k m = sym (right_is s scratch (2 ^ g.bits) g.clusters (below_at s g.root i j) o.is-cluster (second_fair i j ((m refl).1 i l) k))
  below_fails false i j l k m = rw (o.is-cluster, o.is-version)
