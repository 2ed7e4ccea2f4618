-- Laws of an L1 entry and of the L2 table below it, of how they fare in a sweep, and of what is visited.
-- Assumes nothing.
use Prim.Native.Nat.{ℕ, suc, ◌+◌, ◌-◌, ◌*◌, ◌/◌, ◌%◌, ◌^◌, ◌≤◌, ◌<◌}
use mathlib.Core.Path.{◌≡◌, refl, sym, ap, ◌∙◌}
use mathlib.Core.Logic.{◌≢◌}
use mathlib.Core.Bool.{Bool, true, false, ◌&&◌, and-false}
use mathlib.Core.List.{List}
use native.Mathlib.Omega.{arith}
use borrow.Author.Tests.{eq-eqb, ne_eqb, eqb-true}
use lib.Dec.{eqb}
use lib.ListN.{length, take, drop}
use lib.Pow.{pow-add}
use Rattle.endian.specs.Big.{be64, entries}
use Rattle.endian.proofs.Entries.{entries_turn, entries_none, take-entries, drop-entries}
use Rattle.packed.proofs.Parts.{length_part}
use Rattle.tally.specs.Tally.{joined}
use Rattle.window.specs.Window.{Board, bit_kind, visited_in, visit_all_in, entry_visited_in, tree_visited_in}
use Rattle.qcow2_spec.specs.Header.{version, cluster_size, per_table, root_size, root_at}
use Rattle.qcow2_spec.specs.Entries.{place, common, good_l1}
use Rattle.qcow2_spec.specs.References.{l2_refs, l1_entries, l2_entries, table_refs, l1_refs}
use Rattle.qcow2_groups.specs.Walks.{fore, whole}
use Rattle.qcow2_sweep.specs.Sweeps.{passes_by}
use Rattle.qcow2_swept.specs.Rows.{passes_l1_by, row_fore}

-- a cluster of the image, lent as a part of it, has whole sectors
pub part-sectors : (s : List ℕ) (p b : ℕ) (T : List ℕ) → 9 ≤ b → p + 2 ^ b ≤ length s → T ≡ take (2 ^ b) (drop p s) → length T % 512 ≡ 0
part-sectors s p b T low fits e =
    let d : 9 + (b - 9) ≡ b = omega arith in
    let k : 2 ^ b ≡ 512 * 2 ^ (b - 9) = sym (ap (λ (k : ℕ). 2 ^ k) d) ∙ pow-add 2 9 (b - 9) in
    rw (e, length_part s p (2 ^ b) fits) (omega arith)

-- the L2 table at p, handed on as a part of the image
module _ (leaf : ℕ) (s : List ℕ) (v C p : ℕ) (T : List ℕ) (hv : v ≡ version s) (h_c : C ≡ cluster_size s) (fits : p + C ≤ length s) (h_t : T ≡ take C (drop p s)) where
  part-entries : whole T ≡ l2_entries s p
  unfolding l2_entries per_table
  part-entries = rw (h_t, length_part s p C fits, h_c)

  pub below-fore : fore (passes_by leaf v C (length s)) (whole T) ≡ fore (passes_by leaf (version s) (cluster_size s) (length s)) (l2_entries s p)
  below-fore = rw (part-entries, hv, h_c)

  pub below_visits : (table b : ℕ) (w : Board) → visit_all_in leaf b (joined (l2_refs v C (length s)) (whole T)) (visited_in table b (p / C) w) ≡ entry_visited_in table leaf b (table_refs s p) w
  unfolding table_refs entry_visited_in visit_all_in
  below_visits table b w = rw (part-entries, hv, h_c)

-- an L1 entry: bad, with no table, or with one, which is common or not
module _ (leaf : ℕ) (s : List ℕ) (C e : ℕ) (h_c : C ≡ cluster_size s) where
  pub row-bad : (table b : ℕ) (w : Board) → good_l1 C (length s) e ≡ false → (suc (per_table s) ≡ row_fore leaf s e) × (w ≡ entry_visited_in table leaf b (l1_refs s e) w)
  unfolding row_fore passes_l1_by l1_refs entry_visited_in visit_all_in
  row-bad table b w h = let k : good_l1 (cluster_size s) (length s) e ≡ false = rw h_c at h in (rw k, rw k)

  pub row-none : (table b : ℕ) (w : Board) → good_l1 C (length s) e ≡ true → place e ≡ 0 → (per_table s ≡ row_fore leaf s e) × (w ≡ entry_visited_in table leaf b (l1_refs s e) w)
  unfolding row_fore passes_l1_by common l1_refs entry_visited_in visit_all_in
  row-none table b w h z =
      let k : good_l1 (cluster_size s) (length s) e ≡ true = rw h_c at h in
      (rw (k, eq-eqb (place e) 0 z, and-false), rw (k, eq-eqb (place e) 0 z))

  pub row_refs : good_l1 C (length s) e ≡ true → place e ≢ 0 → table_refs s (place e) ≡ l1_refs s e
  unfolding l1_refs
  row_refs h z = let k : good_l1 (cluster_size s) (length s) e ≡ true = rw h_c at h in rw (k, ne_eqb (place e) 0 z)

  pub row_common : leaf ≡ bit_kind → common e ≡ true → suc (per_table s) ≡ row_fore leaf s e
  unfolding row_fore passes_l1_by
  row_common l h = rw (eq-eqb leaf bit_kind l, h, and-false)

  pub row-some : good_l1 C (length s) e ≡ true → place e ≢ 0 → (leaf ≡ bit_kind → common e ≡ false)
      → fore (passes_by leaf (version s) (cluster_size s) (length s)) (l2_entries s (place e)) ≡ row_fore leaf s e
  unfolding row_fore passes_l1_by
  row-some h z f =
      let k : good_l1 (cluster_size s) (length s) e ≡ true = rw h_c at h in
      rw (k, passes_on (eqb leaf bit_kind) refl, ne_eqb (place e) 0 z)
    where
      passes_on : (t : Bool) → eqb leaf bit_kind ≡ t → (eqb leaf bit_kind && common e) ≡ false
      passes_on true q = rw (q, f (eqb-true leaf bit_kind q))
      passes_on false q = rw q

-- a tree that is visited entry by entry: what is left from entry j of k on, and nothing at the end
module _ (f : ℕ → List ℕ) (table leaf b k j : ℕ) (t : List ℕ) (w : Board) where
  pub tree_turn : j < k
      → tree_visited_in f table leaf b (entries (k - j) (drop (8 * j) t)) w
      ≡ tree_visited_in f table leaf b (entries (k - (j + 1)) (drop (8 * (j + 1)) t)) (entry_visited_in table leaf b (f (be64 t (8 * j))) w)
  unfolding tree_visited_in
  tree_turn h = rw (entries_turn k j t h)

  pub tree_end : k ≤ j → tree_visited_in f table leaf b (entries (k - j) (drop (8 * j) t)) w ≡ w
  unfolding tree_visited_in
  tree_end h = rw (entries_none k j t h)

-- the L1 entries from one up to another
pub rows-part : (s : List ℕ) (t from to : ℕ) → from ≤ to → to ≤ root_size s t
    → take (to - from) (drop from (l1_entries s t)) ≡ entries (to - from) (drop (8 * from) (drop (root_at s t) s))
unfolding l1_entries
rows-part s t from to h l =
    rw (drop-entries from (root_size s t) (drop (root_at s t) s) (omega arith))
    (take-entries (to - from) (root_size s t - from) (drop (8 * from) (drop (root_at s t) s)) (omega arith))
