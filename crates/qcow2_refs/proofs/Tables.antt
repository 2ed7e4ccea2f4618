-- Laws of an L1 entry and of the L2 table below it.
-- Assumes nothing.
use Prim.Native.Nat.{ℕ, ◌+◌, ◌/◌, ◌≤◌}
use mathlib.Core.Path.{◌≡◌, refl}
use mathlib.Core.Bool.{Bool, true, false, ◌&&◌, and-false}
use mathlib.Core.List.{List}
use borrow.Author.Tests.{eq-eqb, ne_eqb, eqb-true}
use lib.Dec.{eqb}
use lib.ListN.{length, take, drop}
use Rattle.tally.specs.Tally.{joined}
use Rattle.tally.specs.States.{visited, visit_all, entry_visited}
use Rattle.qcow2_spec.specs.Header.{version, cluster_size, per_table}
use Rattle.qcow2_spec.specs.Entries.{place, common, good_l1}
use Rattle.qcow2_spec.specs.References.{l2_refs, l2_entries, table_refs, l1_refs}
use Rattle.qcow2_groups.specs.Walks.{passes, fore, whole}
use Rattle.qcow2_refs.specs.Walks.{passes_l1, table_front, row_front}
use Rattle.packed.proofs.Parts.{length_part}

-- the L2 table at p, handed on as a part of the image
module _ (leaf : ℕ) (s : List ℕ) (v C p : ℕ) (T : List ℕ) (hv : v ≡ version s) (h_c : C ≡ cluster_size s) (fits : p + C ≤ length s) (h_t : T ≡ take C (drop p s)) where
  part-entries : whole T ≡ l2_entries s p
  unfolding l2_entries per_table
  part-entries = rw (h_t, length_part s p C fits, h_c)

  pub below-front : fore (passes leaf v C (length s)) (whole T) ≡ table_front leaf s p
  unfolding table_front
  below-front = rw (part-entries, hv, h_c)

  pub below_refs : (table : ℕ) (S : List ℕ) → visit_all leaf (joined (l2_refs v C (length s)) (whole T)) (visited table S (p / C)) ≡ entry_visited table leaf (table_refs s p) S
  unfolding table_refs entry_visited visit_all
  below_refs table S = rw (part-entries, hv, h_c)

-- an L1 entry: bad, with no table, or with one, which is common or not
module _ (leaf : ℕ) (s : List ℕ) (C e : ℕ) (h_c : C ≡ cluster_size s) where
  pub row-bad : (table : ℕ) (S : List ℕ) → good_l1 C (length s) e ≡ false → (0 ≡ row_front leaf s e) × (S ≡ entry_visited table leaf (l1_refs s e) S)
  unfolding row_front passes_l1 l1_refs entry_visited visit_all
  row-bad table S h = let k : good_l1 (cluster_size s) (length s) e ≡ false = rw h_c at h in (rw k, rw k)

  pub row-none : (table : ℕ) (S : List ℕ) → good_l1 C (length s) e ≡ true → place e ≡ 0 → (per_table s ≡ row_front leaf s e) × (S ≡ entry_visited table leaf (l1_refs s e) S)
  unfolding row_front passes_l1 common l1_refs entry_visited visit_all
  row-none table S h z =
      let k : good_l1 (cluster_size s) (length s) e ≡ true = rw h_c at h in
      (rw (k, eq-eqb (place e) 0 z, and-false), rw (k, eq-eqb (place e) 0 z))

  pub row_refs : good_l1 C (length s) e ≡ true → (place e ≡ 0 → ⊥) → table_refs s (place e) ≡ l1_refs s e
  unfolding l1_refs
  row_refs h z = let k : good_l1 (cluster_size s) (length s) e ≡ true = rw h_c at h in rw (k, ne_eqb (place e) 0 z)

  pub row_common : leaf ≡ 0 → common e ≡ true → 0 ≡ row_front leaf s e
  unfolding row_front passes_l1
  row_common l h = rw (eq-eqb leaf 0 l, h, and-false)

  pub row-some : good_l1 C (length s) e ≡ true → (place e ≡ 0 → ⊥) → (leaf ≡ 0 → common e ≡ false) → table_front leaf s (place e) ≡ row_front leaf s e
  unfolding row_front passes_l1
  row-some h z f =
      let k : good_l1 (cluster_size s) (length s) e ≡ true = rw h_c at h in
      rw (k, passes_on (eqb leaf 0) refl, ne_eqb (place e) 0 z)
    where
      passes_on : (t : Bool) → eqb leaf 0 ≡ t → (eqb leaf 0 && common e) ≡ false
      passes_on true q = rw (q, f (eqb-true leaf 0 q))
      passes_on false q = rw q
