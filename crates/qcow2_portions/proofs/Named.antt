-- A mark that the last portion names is that of a good entry, and wrong by the figures.
-- Assumes nothing.
use Rattle.std.specs.Prelude.{if◌then◌else◌}
use Prim.Native.Nat.{ℕ, suc, ◌+◌}
use native.Mathlib.Nat.{add-zero, zero-add, add-suc, suc-add}
use mathlib.Core.Path.{◌≡◌, refl, sym, ◌∙◌, subst}
use mathlib.Core.Bool.{Bool, true, false, not, ◌||◌}
use mathlib.Core.List.{List, [], ◌∷◌}
use lib.Dec.{ltb, eqb}
use lib.ListN.{length, get_or}
use Rattle.choice.specs.Pick.{first, count as count_that}
use Rattle.qcow2_spec.specs.Header.{version, cluster_size, clusters}
use Rattle.qcow2_spec.specs.Entries.{place, good_l1, good_l2}
use Rattle.qcow2_spec.specs.References.{l1_entries, l2_entries}
use Rattle.qcow2_spec.specs.Check.{l2_verdict, entry_verdict, l1_verdict, right_mark, shared_at, short, over}
use Rattle.qcow2_spec.specs.declared.Verdict.{Verdict}
use Rattle.qcow2_spec.specs.declared.Verdict.TheVariants.{Sound, Leaks, Shared, Short, MarkL1, MarkL2}
use Rattle.qcow2_portions.specs.Last.{passed_l1, passed_all, good_marks, marks_verdict, last_verdict}
use Rattle.qcow2_portions.specs.Named.{MarkNamed, Named}

if_either : (P : Verdict → Type 0) (b : Bool) (v w : Verdict) → P v → P w → P (if b then v else w)
if_either P true v w p q = p
if_either P false v w p q = q

-- what holds of each wrong mark of a good entry, and of `next`, holds of what the search names
module _ (s fs : List ℕ) (P : Verdict → Type 0) where
  abbrev good1 : ℕ → Bool
  good1 = good_l1 (cluster_size s) (length s)

  abbrev good2 : ℕ → Bool
  good2 = good_l2 (version s) (cluster_size s) (length s)

  below_holds : (i j : ℕ) (es : List ℕ) (next : Verdict) → P next
      → ((k : ℕ) → good2 (get_or es k 0) ≡ true → right_mark s fs (get_or es k 0) ≡ false → P (MarkL2 i (j + k)))
      → P (l2_verdict (good_marks s fs) i j es next)
  unfolding l2_verdict good_marks
  below_holds i j [] next p f = p
  below_holds i j (e ∷ es) next p f =
      go (good2 e) (right_mark s fs e) refl refl
      (below_holds i (suc j) es next p (λ k g r. subst (λ (n : ℕ). P (MarkL2 i n)) (add-suc j k ∙ sym (suc-add j k)) (f (suc k) g r)))
    where
      go : (g r : Bool) → good2 e ≡ g → right_mark s fs e ≡ r → P (l2_verdict (good_marks s fs) i (suc j) es next)
          → P (if not (good2 e) || right_mark s fs e then l2_verdict (good_marks s fs) i (suc j) es next else MarkL2 i j)
      go false r a b rest = rw a rest
      go true true a b rest = rw (a, b) rest
      go true false a b rest = rw (a, b) (subst (λ (n : ℕ). P (MarkL2 i n)) (add-zero j) (f 0 a b))

  place_none : place 0 ≡ 0
  unfolding place
  place_none = refl

  mark_none : right_mark s fs 0 ≡ true
  unfolding right_mark place
  mark_none = refl

  row-holds : (i e : ℕ) (next : Verdict) → P next
      → (good1 e ≡ true → right_mark s fs e ≡ false → P (MarkL1 i))
      → ((k : ℕ) → good1 e ≡ true → good2 (get_or (l2_entries s (place e)) k 0) ≡ true → right_mark s fs (get_or (l2_entries s (place e)) k 0) ≡ false → P (MarkL2 i k))
      → P (entry_verdict s (good_marks s fs) i (passed_l1 s e) next)
  unfolding entry_verdict passed_l1 good_marks
  row-holds i e next p f h = go (good1 e) refl
    where
      one : (r : Bool) → good1 e ≡ true → right_mark s fs e ≡ r
          → P (if not (right_mark s fs e) then MarkL1 i else if eqb (place e) 0 then next else l2_verdict (good_marks s fs) i 0 (l2_entries s (place e)) next)
      one false a b = rw b (f a b)
      one true a b =
          rw b
          (if_either P (eqb (place e) 0) next (l2_verdict (good_marks s fs) i 0 (l2_entries s (place e)) next) p
          (below_holds i 0 (l2_entries s (place e)) next p (λ k g r. subst (λ (n : ℕ). P (MarkL2 i n)) (sym (zero-add k)) (h k a g r))))

      go : (g : Bool) → good1 e ≡ g → P (entry_verdict s (good_marks s fs) i (if good1 e then e else 0) next)
      go true a = rw a (one (right_mark s fs e) a refl)
      go false a = rw (a, mark_none, place_none) p

  rows_hold : (i : ℕ) (es : List ℕ) (next : Verdict) → P next
      → ((k : ℕ) → good1 (get_or es k 0) ≡ true → right_mark s fs (get_or es k 0) ≡ false → P (MarkL1 (i + k)))
      → ((k j : ℕ) → good1 (get_or es k 0) ≡ true → good2 (get_or (l2_entries s (place (get_or es k 0))) j 0) ≡ true → right_mark s fs (get_or (l2_entries s (place (get_or es k 0))) j 0) ≡ false → P (MarkL2 (i + k) j))
      → P (l1_verdict s (good_marks s fs) i (passed_all s es) next)
  unfolding l1_verdict passed_all
  rows_hold i [] next p f h = p
  rows_hold i (e ∷ es) next p f h =
      row-holds i e (l1_verdict s (good_marks s fs) (suc i) (passed_all s es) next)
      (rows_hold (suc i) es next p (λ k g r. subst (λ (n : ℕ). P (MarkL1 n)) (add-suc i k ∙ sym (suc-add i k)) (f (suc k) g r))
      (λ k j g a r. subst (λ (n : ℕ). P (MarkL2 n j)) (add-suc i k ∙ sym (suc-add i k)) (h (suc k) j g a r)))
      (λ g r. subst (λ (n : ℕ). P (MarkL1 n)) (add-zero i) (f 0 g r))
      (λ k g a r. subst (λ (n : ℕ). P (MarkL2 n k)) (add-zero i) (h 0 k g a r))

pub named : Named
unfolding last_verdict marks_verdict MarkNamed
named s fs =
    let N = clusters s in
    let P : Verdict → Type 0 = MarkNamed s fs in
    let leaks = count_that (over s fs) 0 N in
    let next = if ltb 0 leaks then Leaks leaks else Sound in
    let marks = marks_verdict s fs next in
    let shared = first (shared_at s) 0 N in
    let low = first (short s fs) 0 N in
    if_either P (ltb shared N) (Shared shared) (if ltb low N then Short low else marks) tt
    (if_either P (ltb low N) (Short low) marks tt
    (rows_hold s fs P 0 (l1_entries s 0) next (if_either P (ltb 0 leaks) (Leaks leaks) Sound tt tt)
    (λ k g r. subst (λ (n : ℕ). P (MarkL1 n)) (sym (zero-add k)) (g, r))
    (λ k j g a r. subst (λ (n : ℕ). P (MarkL2 n j)) (sym (zero-add k)) (g, a, r))))
