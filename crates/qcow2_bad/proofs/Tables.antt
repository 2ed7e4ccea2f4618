-- Laws of the search over all L1 tables.
-- Assumes nothing.
use Prim.Native.Nat.{ℕ, zero, suc, ◌+◌, ◌-◌, ◌≤◌, ◌<◌}
use mathlib.Core.Path.{◌≡◌, refl, sym, ap, ◌∙◌}
use mathlib.Core.Bool.{true, false, true≢false}
use mathlib.Core.List.{List}
use native.Mathlib.Nat.{sub-zero}
use native.Mathlib.Omega.{arith}
use lib.ListN.{length}
use Rattle.qcow2_spec.specs.Header.{most_snapshots, roots, root_size, version, cluster_size}
use Rattle.qcow2_spec.specs.Entries.{good_l2}
use Rattle.qcow2_spec.specs.References.{l1_entries}
use Rattle.qcow2_spec.specs.Check.{or_else, l1_verdict, bad_in, roots_verdict, table_good, entry_good}
use Rattle.qcow2_spec.specs.Opened.{Opened}
use Rattle.qcow2_spec.specs.declared.Geometry.{Geometry}
use Rattle.qcow2_spec.specs.declared.Verdict.{Verdict}
use Rattle.qcow2_spec.specs.declared.Verdict.TheVariants.{Sound, Leaks, BadL1, BadL2, Shared, Short, MarkL1, MarkL2, Refused}
use Rattle.qcow2_spec.proofs.Else.{bad_damage, l1_else}
use Rattle.qcow2_spec.proofs.Facts.{facts, root-count}
use Rattle.qcow2_marks.specs.Marks.{UnharmedTo, GoodTo, unharmed}
use Rattle.qcow2_fails.specs.Seeks.{BelowTo}
use Rattle.qcow2_bad.specs.Known.{Spot, sound}
use Rattle.qcow2_seek.proofs.Naming.{rows-first, rows_later, rows_none}

-- bad entries are what fails by their own rules
unharmed-bad : (s : List ℕ) (t e : ℕ) → unharmed s (bad_in s t) e ≡ entry_good s e
unfolding unharmed bad_in entry_good table_good
unharmed-bad s t e = refl

below-bad : (s : List ℕ) (t e : ℕ) → (bad_in s t).good2 e ≡ good_l2 (version s) (cluster_size s) (length s) e
unfolding bad_in
below-bad s t e = refl

-- a verdict that is sound, and one that is not
pub sound-is : (v : Verdict) → sound v ≡ true → v ≡ Sound
sound-is Sound h = refl
sound-is (Leaks m) h = absurd (true≢false (sym h))
sound-is (BadL1 t i) h = absurd (true≢false (sym h))
sound-is (BadL2 t i j) h = absurd (true≢false (sym h))
sound-is (Shared k) h = absurd (true≢false (sym h))
sound-is (Short k) h = absurd (true≢false (sym h))
sound-is (MarkL1 i) h = absurd (true≢false (sym h))
sound-is (MarkL2 i j) h = absurd (true≢false (sym h))
sound-is (Refused k) h = absurd (true≢false (sym h))

pub unsound : (v : Verdict) → (v ≡ Sound → ⊥) → false ≡ sound v
unsound Sound h = absurd (h refl)
unsound (Leaks m) h = refl
unsound (BadL1 t i) h = refl
unsound (BadL2 t i j) h = refl
unsound (Shared k) h = refl
unsound (Short k) h = refl
unsound (MarkL1 i) h = refl
unsound (MarkL2 i j) h = refl
unsound (Refused k) h = refl

pub sound_else : (v next : Verdict) → sound v ≡ false → or_else v next ≡ v
sound_else Sound next h = absurd (true≢false h)
sound_else (Leaks m) next h = refl
sound_else (BadL1 t i) next h = refl
sound_else (BadL2 t i j) next h = refl
sound_else (Shared k) next h = refl
sound_else (Short k) next h = refl
sound_else (MarkL1 i) next h = refl
sound_else (MarkL2 i j) next h = refl
sound_else (Refused k) next h = refl

module _ (s : List ℕ) where
  -- what is found in L1 table t, and from it on
  abbrev pub table_found : ℕ → Verdict
  table_found t = l1_verdict s (bad_in s t) 0 (l1_entries s t) Sound

  unfoldable pub tables_from : ℕ → Verdict
  tables_from t = roots_verdict s t (roots s - t) Sound

  pub tables-first : tables_from 0 ≡ roots_verdict s 0 (roots s) Sound
  unfolding tables_from
  tables-first = rw sub-zero

  pub tables_turn : (t : ℕ) → t < roots s → tables_from t ≡ or_else (table_found t) (tables_from (t + 1))
  unfolding tables_from roots_verdict
  tables_turn t h =
      let e : roots s - t ≡ suc (roots s - (t + 1)) = omega arith in
      let f : suc t ≡ t + 1 = omega arith in
      rw (e, f) (l1_else s (bad_in s t) (bad_damage s t) 0 (l1_entries s t) (roots_verdict s (t + 1) (roots s - (t + 1)) Sound))

  pub tables_miss : (t : ℕ) → t < roots s → table_found t ≡ Sound → tables_from t ≡ tables_from (t + 1)
  tables_miss t h e = tables_turn t h ∙ ap (λ (v : Verdict). or_else v (tables_from (t + 1))) e

  pub tables_hit : (t : ℕ) (v : Verdict) → t < roots s → v ≡ table_found t → sound v ≡ false → tables_from t ≡ v
  tables_hit t v h e f = tables_turn t h ∙ ap (λ (u : Verdict). or_else u (tables_from (t + 1))) (sym e) ∙ sound_else v (tables_from (t + 1)) f

  pub tables-none : (t : ℕ) → roots s ≤ t → tables_from t ≡ Sound
  unfolding tables_from roots_verdict
  tables-none t h = let e : roots s - t ≡ 0 = omega arith in rw e

  -- good entries are not what the search looks for
  pub good-unharmed : (t i : ℕ) → GoodTo s t i → UnharmedTo s (bad_in s t) t i
  good-unharmed t i h k l = unharmed-bad s t _ ∙ h k l

  table-good : (t : ℕ) → GoodTo s t (root_size s t) → table_found t ≡ Sound
  table-good t h =
      sym (rows-first s (bad_in s t) t) ∙ sym (rows_later s (bad_in s t) t (root_size s t) (omega arith) (good-unharmed t (root_size s t) h))
      ∙ rows_none s (bad_in s t) t (root_size s t) (omega arith)

  -- good tables may be left out
  pub tables_later : (t : ℕ) → t ≤ roots s → ((u : ℕ) → u < t → GoodTo s u (root_size s u)) → tables_from t ≡ tables_from 0
  tables_later zero h g = refl
  tables_later (suc t) h g =
      let e : t + 1 ≡ suc t = omega arith in
      let m : tables_from t ≡ tables_from (t + 1) = tables_miss t (omega arith) (table-good t (g t (omega arith))) in
      (rw e at (sym m)) ∙ tables_later t (omega arith) (λ u l. g u (omega arith))

-- what the search over L1 table t must know, in the numbers of one that is it
pub spot_known : (s : List ℕ) (t u i j : ℕ) → u ≡ t → Spot s t i j → UnharmedTo s (bad_in s u) u i × BelowTo s (bad_in s u) u i j
spot_known s t u i j e p = rw e (good-unharmed s t i p.rows, λ k l. below-bad s t _ ∙ p.below k l)

-- a table that nothing is known of
pub spot-first : (s : List ℕ) (t : ℕ) → Spot s t 0 0
spot-first s t = record { few = omega arith; rows = λ k l. absurd (omega arith); below = λ k l. absurd (omega arith) }

-- as many tables as the header says, and not many
pub tables-many : (g : Geometry) (s : List ℕ) → Opened g s → (g.snapshots + 1 ≡ roots s) × (g.snapshots ≤ most_snapshots)
tables-many g s o =
    let f = facts s o.accepted in
    (omega (arith, o.is-snapshots, root-count s f), omega (arith, o.is-snapshots, f.some))
