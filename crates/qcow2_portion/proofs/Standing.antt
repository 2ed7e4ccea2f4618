-- Where a check in portions stands that began anew on an image: what was taken and what is ahead are all entries, and what is held is what the
-- entries taken give. Assumes nothing.
use Rattle.std.specs.Prelude.{if◌then◌else◌}
use Prim.Native.Nat.{ℕ, zero, suc, ◌+◌, ◌-◌, ◌*◌, ◌≤◌, ◌<◌}
use native.Mathlib.Nat.{sub-zero}
use native.Mathlib.Omega.{arith}
use mathlib.Core.Path.{◌≡◌, refl, sym, ap, ap₂, ◌∙◌}
use mathlib.Core.Logic.{◌⊎◌, inl, inr}
use mathlib.Core.Bool.{true, false}
use mathlib.Core.List.{List, [], ◌∷◌, ◌++◌, append_assoc}
use lib.Dec.{ltb}
use lib.ListN.{length, take, drop, replicate, length-append, length-take, length-drop, length-replicate, take-append-drop}
use lib.Seq.{take_all, take_at, drop_at}
use borrow.Author.Tests.{ne_eqb, ltb-true, ltb-false}
use Rattle.choice.proofs.Tests.{two_ways}
use Rattle.tally.specs.Tally.{wide, bump_all_wide}
use Rattle.tally.specs.States.{twos}
use Rattle.tally.proofs.States.{visit_all-count, length-visit_all}
use Rattle.qcow2_spec.specs.Header.{clusters, roots}
use Rattle.qcow2_spec.specs.References.{l1_refs, fixed_refs, references, most_figure, figures_of, scratch_after as counted_scratch}
use Rattle.qcow2_spec.specs.Check.{or_else, roots_verdict, counts_verdict, verdict}
use Rattle.qcow2_spec.specs.declared.Verdict.{Verdict}
use Rattle.qcow2_spec.specs.declared.Verdict.TheVariants.{Sound}
use Rattle.qcow2_spec.proofs.Else.{roots_else}
use Rattle.tally.proofs.Laws.{length-figures}
use Rattle.tally.proofs.Wide.{figures_fit}
use Rattle.packed_twos.proofs.Laws.{figures-wide, length-wide}
use Rattle.qcow2_bad.specs.Known.{sound}
use Rattle.qcow2_bad.proofs.Tables.{sound-is, sound_else}
use Rattle.qcow2_verdict.proofs.Figures.{figures_are}
use Rattle.qcow2_check.proofs.Verdicts.{sound-all}
use Rattle.qcow2_portions.specs.Rows.{Row, tables_rows, ahead, added, met, root_after, row_after, started}
use Rattle.qcow2_portions.specs.Last.{last_verdict}
use Rattle.qcow2_portions.proofs.Last.{last-good}
use Rattle.qcow2_portions.proofs.Rows.{added_append, met_append, added-all, met_all, ahead-tables, ahead_after}
use Rattle.qcow2_portion.specs.State.{waits, ends, taken_rows, figures_taken, verdict_taken, taken, stepped, scratch_stepped}
use Rattle.qcow2_portion.specs.declared.CheckState.{CheckState}
use Rattle.qcow2_portion.specs.declared.CheckState.TheVariants.{New, Going, Finished}

length_bumps : (rs z : List ℕ) → length (bump_all_wide rs z) ≡ length z
length_bumps rs z = ap length (sym (visit_all-count rs z)) ∙ length-visit_all 0 rs z

length-added : (s : List ℕ) (rs : List Row) (z : List ℕ) → length (added s rs z) ≡ length z
unfolding added
length-added s [] z = refl
length-added s (r ∷ rs) z = length-added s rs _ ∙ length_bumps (l1_refs s r.entry) z

-- how many portions may take entries, with one more that may take m
abbrev pub more : ℕ → ℕ → ℕ
more zero n = n
more (suc m) n = suc n

module _ (s z : List ℕ) where
  abbrev pub rows : List Row
  rows = tables_rows s 0 (roots s)

  -- the scratch once some entries are taken
  abbrev pub held_after : List Row → List ℕ
  held_after done = added s done (started s) ++ drop (2 * clusters s) z

  -- a state and a scratch after n portions that may take entries
  pub data Stands (n : ℕ) (st : CheckState) (y : List ℕ) : Type 0 where
    fresh : n ≡ 0 → st ≡ New → y ≡ z → Stands n st y
    going : (done rest : List Row) (t i : ℕ) (v : Verdict)
        → rows ≡ done ++ rest → ahead s t i ≡ rest → 0 < length rest → v ≡ met s done Sound → n ≤ length done
        → st ≡ Going t i v → y ≡ held_after done → Stands n st y
    over : st ≡ Finished (verdict s) → y ≡ counted_scratch s z → Stands n st y

  pub length-held : (done : List Row) → length (added s done (started s)) ≡ 2 * clusters s
  unfolding started
  length-held done = length-added s done (started s) ∙ length_bumps (fixed_refs s) (replicate (2 * clusters s) 0) ∙ length-replicate {0} {A = ℕ} (2 * clusters s) 0

  take-held : (done : List Row) → take (2 * clusters s) (held_after done) ≡ added s done (started s)
  take-held done = take_at (added s done (started s)) (drop (2 * clusters s) z) (2 * clusters s) (length-held done)

  drop-held : (done : List Row) → drop (2 * clusters s) (held_after done) ≡ drop (2 * clusters s) z
  drop-held done = drop_at (added s done (started s)) (drop (2 * clusters s) z) (2 * clusters s) (length-held done)

  -- ---- the last portion
  figures-all : twos (wide (figures_of s)) 0 (clusters s) ≡ figures_of s
  unfolding figures_of
  figures-all = figures_are (wide (figures_of s)) (clusters s) (length-wide (figures_of s) ∙ ap (λ (k : ℕ). 2 * k) (length-figures most_figure (references s) 0 (clusters s))) ∙ figures-wide (figures_of s) (figures_fit (references s) 0 (clusters s))

  -- with the check's figures it judges as the check does, where no bad entry was met
  judged : (v : Verdict) → v ≡ roots_verdict s 0 (roots s) Sound → (fs : List ℕ) → or_else v (last_verdict s fs) ≡ or_else v (counts_verdict s fs)
  judged v e fs = go (two_ways (sound v))
    where
      go : (sound v ≡ true) ⊎ (sound v ≡ false) → or_else v (last_verdict s fs) ≡ or_else v (counts_verdict s fs)
      go (inl h) = let q = sound-is v h in rw q (last-good s fs (sound-all s (sym e ∙ q)))
      go (inr h) = sound_else v (last_verdict s fs) h ∙ sym (sound_else v (counts_verdict s fs) h)

  -- ---- entries are taken
  module _ (done rest : List Row) (t i : ℕ) (v : Verdict) (m n : ℕ) (whole : rows ≡ done ++ rest) (front : ahead s t i ≡ rest) (held : v ≡ met s done Sound) (few : n ≤ length done) where
    abbrev f : List ℕ
    f = added s done (started s)

    some : m < length rest → 0 < m → Stands (suc n) (waits (Going (root_after t (take m rest)) (row_after i (take m rest)) (met s (take m rest) v))).state (added s (take m rest) f ++ drop (2 * clusters s) z)
    some l p =
        going (done ++ take m rest) (drop m rest) _ _ _
        (whole ∙ ap (λ (q : List Row). done ++ q) (sym (take-append-drop m rest)) ∙ sym (append_assoc done (take m rest) (drop m rest)))
        (ahead_after s m t i rest front)
        (omega (arith, length-drop m rest))
        (ap (met s (take m rest)) held ∙ sym (met_append s done (take m rest) Sound))
        (omega (arith, length-append done (take m rest), length-take m rest))
        refl
        (ap (λ (q : List ℕ). q ++ drop (2 * clusters s) z) (sym (added_append s done (take m rest) (started s))))

    all-taken : length rest ≤ m → take m rest ≡ rest
    all-taken l = take_all m rest l

    figures-taken : length rest ≤ m → added s (take m rest) f ≡ wide (figures_of s)
    figures-taken l = ap (λ (q : List Row). added s q f) (all-taken l) ∙ sym (added_append s done rest (started s)) ∙ ap (λ (q : List Row). added s q (started s)) (sym whole) ∙ added-all s

    found-is : length rest ≤ m → met s (take m rest) v ≡ roots_verdict s 0 (roots s) Sound
    found-is l = ap₂ (met s) (all-taken l) held ∙ sym (met_append s done rest Sound) ∙ ap (λ (q : List Row). met s q Sound) (sym whole) ∙ met_all s

    verdict-is : length rest ≤ m → or_else (met s (take m rest) v) (last_verdict s (twos (added s (take m rest) f) 0 (clusters s))) ≡ verdict s
    unfolding verdict
    verdict-is l =
        let e : twos (added s (take m rest) f) 0 (clusters s) ≡ figures_of s = ap (λ (q : List ℕ). twos q 0 (clusters s)) (figures-taken l) ∙ figures-all in
        ap₂ (λ (a : Verdict) (b : List ℕ). or_else a (last_verdict s b)) (found-is l) e
        ∙ judged (roots_verdict s 0 (roots s) Sound) refl (figures_of s) ∙ sym (roots_else s 0 (roots s) (counts_verdict s (figures_of s)))

    pub taken-stands : 0 < m → Stands (suc n) (taken s t i v m f).state (figures_taken s t i m f ++ drop (2 * clusters s) z)
    unfolding taken figures_taken taken_rows verdict_taken counted_scratch
    taken-stands p = rw front (go (two_ways (ltb m (length rest))))
      where
        go : (ltb m (length rest) ≡ true) ⊎ (ltb m (length rest) ≡ false)
            → Stands (suc n)
            (if ltb m (length rest) then waits (Going (root_after t (take m rest)) (row_after i (take m rest)) (met s (take m rest) v)) else ends (or_else (met s (take m rest) v) (last_verdict s (twos (added s (take m rest) f) 0 (clusters s))))).state
            (added s (take m rest) f ++ drop (2 * clusters s) z)
        go (inl h) = rw h (some (ltb-true m (length rest) h) p)
        go (inr h) = let l = ltb-false m (length rest) h in rw h (over (ap Finished (verdict-is l)) (ap (λ (q : List ℕ). q ++ drop (2 * clusters s) z) (figures-taken l)))

  -- ---- one portion
  pub kept : (n : ℕ) (st : CheckState) (y : List ℕ) → Stands n st y → (m : ℕ) → Stands (more m n) (stepped s st y m).state (scratch_stepped s st y m)
  unfolding stepped scratch_stepped met added
  kept n st y (fresh a b c) zero = rw (b, c) (fresh a refl refl)
  kept n st y (fresh a b c) (suc m) =
      rw (b, c, ne_eqb (suc m) 0 (λ e. omega (arith, e)))
      (taken-stands [] rows 0 0 Sound (suc m) n refl (ahead-tables s 0 ∙ ap (tables_rows s 0) (sub-zero (roots s))) refl (omega arith) (omega arith))
  kept n st y (going done rest t i v w f p h l b c) zero = rw (b) (going done rest t i v w f p h l refl c)
  kept n st y (going done rest t i v w f p h l b c) (suc m) =
      rw (b, c, ne_eqb (suc m) 0 (λ e. omega (arith, e)), take-held done, drop-held done) (taken-stands done rest t i v (suc m) n w f h l (omega arith))
  kept n st y (over b c) zero = rw b (over refl c)
  kept n st y (over b c) (suc m) = rw b (over refl c)
