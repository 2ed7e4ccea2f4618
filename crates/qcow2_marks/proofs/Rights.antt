-- Laws of marks against the figures of a scratch, in tables.
-- Assumes nothing.
use Prim.Native.Nat.{ℕ, zero, suc, ◌+◌, ◌-◌, ◌*◌, ◌/◌, ◌^◌, ◌≤◌, ◌<◌}
use mathlib.Core.Path.{◌≡◌, refl, sym, ap, ◌∙◌}
use mathlib.Core.Bool.{Bool, true, false, ◌||◌}
use mathlib.Core.List.{List}
use native.Mathlib.Nat.{zero-add, add-zero}
use native.Mathlib.Omega.{arith}
use borrow.Author.Tests.{eq-eqb, ne_eqb, eqb-true, leb-true, leb-false}
use lib.Dec.{eqb, leb}
use lib.Pow.{pow_pos}
use lib.ListN.{length, get_or, take, drop, length-drop}
use Rattle.choice.specs.Pick.{all, each}
use Rattle.choice.proofs.Tests.{and-true}
use Rattle.endian.specs.Big.{be16, be64, entries, part}
use Rattle.endian.proofs.Entries.{be64-drop}
use Rattle.tally.specs.States.{twos}
use Rattle.blank.proofs.Zeros.{is_zero, entries-zeros}
use Rattle.packed.proofs.Parts.{length_part}
use Rattle.qcow2_spec.specs.Header.{version, cluster_size, per_table}
use Rattle.qcow2_spec.specs.Entries.{place, good_l1, good_l2}
use Rattle.qcow2_spec.specs.References.{l2_entries}
use Rattle.qcow2_spec.specs.Check.{table_good, entry_good, right_mark, wrong_marks}
use Rattle.qcow2_spec.proofs.Facts.{all-entries}
use Rattle.qcow2_spec.proofs.Places.{place_inside, l1_place}
use Rattle.qcow2_marks.specs.Marks.{right, Fair, AllFair, Rights, unharmed}
use Rattle.qcow2_marks.proofs.Fairs.{right_zero, l1_fair, l2_fair}

get_or-each : (f : ℕ → ℕ) (x m k : ℕ) → k < m → get_or (each f x m) k 0 ≡ f (x + k)
get_or-each f x zero k h = absurd (omega arith)
get_or-each f x (suc m) zero h = ap f (sym (add-zero x))
get_or-each f x (suc m) (suc k) h = get_or-each f (suc x) m k (omega arith) ∙ ap f (omega arith)

-- the mark of a fair entry is right by the scratch exactly where it is by its figures
pub right_is : (s scratch : List ℕ) (C m e : ℕ) → C ≡ cluster_size s → Fair C m e → right_mark s (twos scratch 0 m) e ≡ right C scratch e
unfolding right right_mark
right_is s scratch C m e h f =
    let p : ℕ = place e / C in
    let g : get_or (twos scratch 0 m) p 0 ≡ be16 scratch (2 * p) = get_or-each (λ j. be16 scratch (2 * j)) 0 m p f.inside ∙ ap (λ (j : ℕ). be16 scratch (2 * j)) (zero-add p) in
    rw (← h, g)

-- entries one by one
pub all-each : (p : ℕ → Bool) (k : ℕ) (t : List ℕ) → ((i : ℕ) → i < k → p (be64 t (8 * i)) ≡ true) → all p (entries k t) ≡ true
unfolding entries
all-each p zero t h = refl
all-each p (suc k) t h = rw (h 0 (omega arith)) (all-each p k (drop 8 t) (λ i l. rw (be64-drop t 8 (8 * i)) (later i l)))
  where
    later : (i : ℕ) → i < k → p (be64 t (8 + 8 * i)) ≡ true
    later i l = let q : 8 * suc i ≡ 8 + 8 * i = omega arith in rw (ap (λ (n : ℕ). be64 t n) q) at (h (suc i) (omega arith))

-- marks one after another
module _ (C : ℕ) (scratch t : List ℕ) (i : ℕ) where
  pub rights_none : Rights C scratch t i i
  rights_none k l h = absurd (omega arith)

  pub rights_then : (j k : ℕ) → Rights C scratch t i j → Rights C scratch t j k → Rights C scratch t i k
  rights_then j k f g x l h = go (leb j x) refl
    where
      go : (b : Bool) → leb j x ≡ b → right C scratch (be64 t (8 * x)) ≡ true
      go true e = g x (leb-true _ _ e) h
      go false e = f x l (leb-false _ _ e)

  pub rights_next : (j : ℕ) → Rights C scratch t i j → right C scratch (be64 t (8 * j)) ≡ true → Rights C scratch t i (j + 1)
  rights_next j f e = rights_then j (j + 1) f one
    where
      one : Rights C scratch t j (j + 1)
      one x l h = let q : x ≡ j = omega arith in rw q e

  -- m entries of zeros
  pub rights_zeros : (m : ℕ) → 8 * (i + m) ≤ length t → all is_zero (take (8 * m) (drop (8 * i) t)) ≡ true → Rights C scratch t i (i + m)
  rights_zeros m l z x g h = rw empty (right_zero C scratch)
    where
      empty : be64 t (8 * x) ≡ 0
      empty =
          let T : List ℕ = drop (8 * i) t in
          let a : all is_zero (entries m T) ≡ true = sym (entries-zeros m T (simp length-drop (omega arith))) ∙ z in
          let d : 8 * i + 8 * (x - i) ≡ 8 * x = omega arith in
          rw (be64-drop t (8 * i) (8 * (x - i)), d) at (eqb-true (be64 T (8 * (x - i))) 0 (all-entries is_zero m T a (x - i) (omega arith)))

-- an L2 table of the image, handed on as a part of it
module _ (s scratch : List ℕ) (b m p : ℕ) (T : List ℕ) (h_c : 2 ^ b ≡ cluster_size s) (fits : p + 2 ^ b ≤ length s) (h_t : T ≡ take (2 ^ b) (drop p s)) where
  part-entries : entries (length T / 8) T ≡ l2_entries s p
  unfolding l2_entries per_table
  part-entries = rw (h_t, length_part s p (2 ^ b) fits, h_c)

  -- it is fair where it is good
  pub table_fair : length s ≡ m * 2 ^ b → table_good s p ≡ true → AllFair (2 ^ b) m T
  unfolding table_good
  table_fair n h k l =
      let G : ℕ → Bool = good_l2 (version s) (cluster_size s) (length s) in
      let a : all G (entries (length T / 8) T) ≡ true = rw part-entries h in
      l2_fair b (length s) m (be64 T (8 * k)) (omega (arith, fits, pow_pos b)) n (version s) (rw h_c (all-entries G (length T / 8) T a k l))

  -- its marks are right where all at its front are
  pub table-marks : Rights (2 ^ b) scratch T 0 (length T / 8) → all (right (2 ^ b) scratch) (l2_entries s p) ≡ true
  table-marks f = rw (← part-entries) (all-each (right (2 ^ b) scratch) (length T / 8) T (λ i l. f i (omega arith) l))

-- an L1 entry that is good with all below it
module _ (s scratch : List ℕ) (b m e : ℕ) (h_c : 2 ^ b ≡ cluster_size s) (whole : length s ≡ m * 2 ^ b) (some : 1 ≤ length s) (h : entry_good s e ≡ true) where
  abbrev fs : List ℕ
  fs = twos scratch 0 m

  good-row : good_l1 (2 ^ b) (length s) e ≡ true
  unfolding entry_good
  good-row = rw h_c (and-true (good_l1 (cluster_size s) (length s) e) _ h).0

  pub row_fair : Fair (2 ^ b) m e
  row_fair = l1_fair b (length s) m e some whole good-row

  pub row-table : (place e ≡ 0 → ⊥) → (table_good s (place e) ≡ true) × (place e + 2 ^ b ≤ length s)
  unfolding entry_good
  row-table z =
      let t : (eqb (place e) 0 || table_good s (place e)) ≡ true = (and-true (good_l1 (cluster_size s) (length s) e) _ h).1 in
      (rw (ne_eqb (place e) 0 z) at t, place_inside (2 ^ b) (length s) e (l1_place (2 ^ b) (length s) e good-row) z)

  -- what has right marks is not named by the search
  pub row-none : right (2 ^ b) scratch e ≡ true → place e ≡ 0 → unharmed s (wrong_marks s fs) e ≡ true
  unfolding unharmed wrong_marks
  row-none r z = rw (right_is s scratch (2 ^ b) m e h_c row_fair, r, eq-eqb (place e) 0 z)

  pub row-some : right (2 ^ b) scratch e ≡ true → (place e ≡ 0 → ⊥) → all (right (2 ^ b) scratch) (l2_entries s (place e)) ≡ true → unharmed s (wrong_marks s fs) e ≡ true
  unfolding unharmed wrong_marks table_good l2_entries
  row-some r z a =
      let k : ℕ = per_table s in
      let T : List ℕ = part s (place e) (cluster_size s) in
      let G : ℕ → Bool = good_l2 (version s) (cluster_size s) (length s) in
      let each : (i : ℕ) → i < k → right_mark s fs (be64 T (8 * i)) ≡ true = λ i l.
      right_is s scratch (2 ^ b) m (be64 T (8 * i)) h_c (l2_fair b (length s) m (be64 T (8 * i)) some whole (version s) (rw h_c (all-entries G k T (row-table z).0 i l)))
      ∙ all-entries (right (2 ^ b) scratch) k T a i l in
      rw (right_is s scratch (2 ^ b) m e h_c row_fair, r, ne_eqb (place e) 0 z) (all-each (right_mark s fs) k T each)
