-- Laws of what the last portion judges: where all entries are good it is the check's, and a search for wrong marks may be made with `Sound` first.
-- Assumes nothing.
use Rattle.std.specs.Prelude.{if◌then◌else◌}
use Prim.Native.Nat.{ℕ, suc}
use mathlib.Core.Path.{◌≡◌, refl}
use mathlib.Core.Bool.{Bool, true, false, not, ◌||◌}
use mathlib.Core.List.{List, [], ◌∷◌}
use lib.Dec.{eqb, ltb}
use lib.ListN.{length}
use Rattle.choice.specs.Pick.{all, count as count_that}
use Rattle.choice.proofs.Tests.{and-true}
use Rattle.qcow2_spec.specs.Header.{version, cluster_size, clusters}
use Rattle.qcow2_spec.specs.Entries.{place, good_l1, good_l2}
use Rattle.qcow2_spec.specs.References.{l1_entries, l2_entries}
use Rattle.qcow2_spec.specs.Check.{or_else, table_good, entry_good, l2_verdict, entry_verdict, l1_verdict, right_mark, wrong_marks, over, counts_verdict}
use Rattle.qcow2_spec.specs.declared.Verdict.{Verdict}
use Rattle.qcow2_spec.specs.declared.Verdict.TheVariants.{Sound, Leaks, MarkL1}
use Rattle.qcow2_spec.proofs.Else.{Damage, l1_else}
use Rattle.qcow2_portions.specs.Last.{passed_l1, passed_all, good_marks, marks_verdict, last_verdict}

module _ (s fs : List ℕ) where
  -- what the search names is not sound
  good_damage : Damage (good_marks s fs)
  unfolding good_marks
  good_damage = record { first = λ i next. refl; second = λ i j next. refl }

  pub marks-next : (next : Verdict) → marks_verdict s fs next ≡ or_else (marks_verdict s fs Sound) next
  unfolding marks_verdict
  marks-next next = l1_else s (good_marks s fs) good_damage 0 (passed_all s (l1_entries s 0)) next

  -- ---- where all entries are good
  below-good : (i j : ℕ) (es : List ℕ) (next : Verdict) → all (good_l2 (version s) (cluster_size s) (length s)) es ≡ true
      → l2_verdict (good_marks s fs) i j es next ≡ l2_verdict (wrong_marks s fs) i j es next
  unfolding l2_verdict good_marks wrong_marks
  below-good i j [] next h = refl
  below-good i j (e ∷ es) next h =
      let k = and-true (good_l2 (version s) (cluster_size s) (length s) e) (all (good_l2 (version s) (cluster_size s) (length s)) es) h in
      rw (k.0, below-good i (suc j) es next k.1)

  passed_good : (e : ℕ) → entry_good s e ≡ true → passed_l1 s e ≡ e
  unfolding entry_good passed_l1
  passed_good e h = rw (and-true (good_l1 (cluster_size s) (length s) e) _ h).0

  row-good : (i e : ℕ) (next : Verdict) → entry_good s e ≡ true → entry_verdict s (good_marks s fs) i e next ≡ entry_verdict s (wrong_marks s fs) i e next
  unfolding entry_verdict entry_good table_good good_marks wrong_marks
  row-good i e next h = go (not (right_mark s fs e)) (eqb (place e) 0) (and-true (good_l1 (cluster_size s) (length s) e) _ h).1
    where
      go : (a b : Bool) → (b || table_good s (place e)) ≡ true
          → (if a then MarkL1 i else if b then next else l2_verdict (good_marks s fs) i 0 (l2_entries s (place e)) next)
          ≡ (if a then MarkL1 i else if b then next else l2_verdict (wrong_marks s fs) i 0 (l2_entries s (place e)) next)
      go true b t = refl
      go false true t = refl
      go false false t = below-good i 0 (l2_entries s (place e)) next t

  rows-good : (i : ℕ) (es : List ℕ) (next : Verdict) → all (entry_good s) es ≡ true
      → l1_verdict s (good_marks s fs) i (passed_all s es) next ≡ l1_verdict s (wrong_marks s fs) i es next
  unfolding l1_verdict passed_all
  rows-good i [] next h = refl
  rows-good i (e ∷ es) next h =
      let k = and-true (entry_good s e) (all (entry_good s) es) h in
      rw (passed_good e k.0, rows-good (suc i) es next k.1) (row-good i e _ k.0)

  pub marks-good : (next : Verdict) → all (entry_good s) (l1_entries s 0) ≡ true → marks_verdict s fs next ≡ l1_verdict s (wrong_marks s fs) 0 (l1_entries s 0) next
  unfolding marks_verdict
  marks-good next h = rows-good 0 (l1_entries s 0) next h

  pub last-good : all (entry_good s) (l1_entries s 0) ≡ true → last_verdict s fs ≡ counts_verdict s fs
  unfolding last_verdict counts_verdict
  last-good h = rw (marks-good (if ltb 0 (count_that (over s fs) 0 (clusters s)) then Leaks (count_that (over s fs) 0 (clusters s)) else Sound) h)
