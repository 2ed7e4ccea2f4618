-- The verdict of an image is not a refusal. Assumes nothing.
use Prim.Native.Nat.{ℕ, zero, suc}
use mathlib.Core.Path.{◌≡◌, subst}
use mathlib.Core.Bool.{not}
use mathlib.Core.List.{List, [], ◌∷◌}
use lib.Dec.{ltb, eqb}
use Rattle.choice.specs.Pick.{first, count as count_that}
use Rattle.choice.proofs.Tests.{if_elim}
use Rattle.qcow2_spec.specs.Header.{clusters, roots}
use Rattle.qcow2_spec.specs.Entries.{place}
use Rattle.qcow2_spec.specs.References.{l1_entries, l2_entries, figures_of}
use Rattle.qcow2_spec.specs.Check.{Seek, l2_verdict, entry_verdict, l1_verdict, bad_in, roots_verdict, wrong_marks, shared_at, short, over, counts_verdict, verdict}
use Rattle.qcow2_spec.specs.declared.Verdict.{Verdict}
use Rattle.qcow2_spec.specs.declared.Verdict.TheVariants.{Sound, Leaks, BadL1, BadL2, Shared, Short, MarkL1, MarkL2, Refused}

abbrev Real : Verdict → Type 0
Real Sound = Unit {0}
Real (Leaks m) = Unit {0}
Real (BadL1 t i) = Unit {0}
Real (BadL2 t i j) = Unit {0}
Real (Shared k) = Unit {0}
Real (Short k) = Unit {0}
Real (MarkL1 i) = Unit {0}
Real (MarkL2 i j) = Unit {0}
Real (Refused k) = ⊥

-- by what is sought
module _ (s : List ℕ) (w : Seek) (one : (i : ℕ) → Real (w.bad1 i)) (two : (i j : ℕ) → Real (w.bad2 i j)) (next : Verdict) where
  l2-real : (i j : ℕ) (es : List ℕ) → Real next → Real (l2_verdict w i j es next)
  unfolding l2_verdict
  l2-real i j [] r = r
  l2-real i j (e ∷ es) r = if_elim Real (w.good2 e) _ _ (λ _. l2-real i (suc j) es r) (λ _. two i j)

  entry-real : (i e : ℕ) → Real next → Real (entry_verdict s w i e next)
  unfolding entry_verdict
  entry-real i e r = if_elim Real (not (w.good1 e)) _ _ (λ _. one i) (λ _. if_elim Real (eqb (place e) 0) _ _ (λ _. r) (λ _. l2-real i 0 (l2_entries s (place e)) r))

l1-real : (s : List ℕ) (w : Seek) → ((i : ℕ) → Real (w.bad1 i)) → ((i j : ℕ) → Real (w.bad2 i j)) → (next : Verdict) (i : ℕ) (es : List ℕ) → Real next → Real (l1_verdict s w i es next)
unfolding l1_verdict
l1-real s w one two next i [] r = r
l1-real s w one two next i (e ∷ es) r = entry-real s w one two (l1_verdict s w (suc i) es next) i e (l1-real s w one two next (suc i) es r)

roots-real : (s : List ℕ) (next : Verdict) (t k : ℕ) → Real next → Real (roots_verdict s t k next)
unfolding roots_verdict bad_in
roots-real s next t zero r = r
roots-real s next t (suc k) r = l1-real s (bad_in s t) (λ i. tt) (λ i j. tt) _ 0 (l1_entries s t) (roots-real s next (suc t) k r)

counts-real : (s fs : List ℕ) → Real (counts_verdict s fs)
unfolding counts_verdict wrong_marks
counts-real s fs =
    let n = clusters s in
    if_elim Real (ltb (first (shared_at s) 0 n) n) _ _ (λ _. tt)
    (λ _. if_elim Real (ltb (first (short s fs) 0 n) n) _ _ (λ _. tt)
    (λ _. l1-real s (wrong_marks s fs) (λ i. tt) (λ i j. tt) _ 0 (l1_entries s 0) (if_elim Real (ltb 0 (count_that (over s fs) 0 n)) _ _ (λ _. tt) (λ _. tt))))

pub unrefused : (s : List ℕ) (k : ℕ) → verdict s ≡ Refused k → ⊥
unfolding verdict
unrefused s k e = subst Real e (roots-real s _ 0 (roots s) (counts-real s (figures_of s)))
