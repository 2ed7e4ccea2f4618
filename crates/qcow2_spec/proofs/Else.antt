-- A search over L1 tables goes on with `next` where it finds nothing: so it may be made with `Sound` first, and `next` looked at where that is
-- the answer. Assumes nothing.
use Rattle.std.specs.Prelude.{if◌then◌else◌}
use Prim.Native.Nat.{ℕ, zero, suc}
use mathlib.Core.Path.{◌≡◌, refl, sym, ap, ◌∙◌}
use mathlib.Core.Bool.{Bool, true, false, not}
use mathlib.Core.List.{List, [], ◌∷◌}
use lib.Dec.{eqb}
use Rattle.qcow2_spec.specs.Entries.{place}
use Rattle.qcow2_spec.specs.References.{l1_entries, l2_entries}
use Rattle.qcow2_spec.specs.Check.{or_else, Seek, l2_verdict, entry_verdict, l1_verdict, bad_in, roots_verdict, wrong_marks}
use Rattle.qcow2_spec.specs.declared.Verdict.{Verdict}
use Rattle.qcow2_spec.specs.declared.Verdict.TheVariants.{Sound, Leaks, BadL1, BadL2, Shared, Short, MarkL1, MarkL2, Refused}

pub else_else : (a b c : Verdict) → or_else a (or_else b c) ≡ or_else (or_else a b) c
else_else Sound b c = refl
else_else (Leaks m) b c = refl
else_else (BadL1 t i) b c = refl
else_else (BadL2 t i j) b c = refl
else_else (Shared k) b c = refl
else_else (Short k) b c = refl
else_else (MarkL1 i) b c = refl
else_else (MarkL2 i j) b c = refl
else_else (Refused k) b c = refl

pub else_sound : (v : Verdict) → or_else v Sound ≡ v
else_sound Sound = refl
else_sound (Leaks m) = refl
else_sound (BadL1 t i) = refl
else_sound (BadL2 t i j) = refl
else_sound (Shared k) = refl
else_sound (Short k) = refl
else_sound (MarkL1 i) = refl
else_sound (MarkL2 i j) = refl
else_sound (Refused k) = refl

-- what a search names is not sound
pub record Damage (w : Seek) : Type 0 where
  pub first : (i : ℕ) (next : Verdict) → or_else (w.bad1 i) next ≡ w.bad1 i
  pub second : (i j : ℕ) (next : Verdict) → or_else (w.bad2 i j) next ≡ w.bad2 i j

pub bad_damage : (s : List ℕ) (t : ℕ) → Damage (bad_in s t)
unfolding bad_in
bad_damage s t = record { first = λ i next. refl; second = λ i j next. refl }

pub mark_damage : (s fs : List ℕ) → Damage (wrong_marks s fs)
unfolding wrong_marks
mark_damage s fs = record { first = λ i next. refl; second = λ i j next. refl }

module _ (s : List ℕ) (w : Seek) (d : Damage w) where
  l2_else : (i j : ℕ) (es : List ℕ) (next : Verdict) → l2_verdict w i j es next ≡ or_else (l2_verdict w i j es Sound) next
  unfolding l2_verdict
  l2_else i j [] next = refl
  l2_else i j (e ∷ es) next = go (w.good2 e) (l2_else i (suc j) es next)
    where
      go : (b : Bool) → l2_verdict w i (suc j) es next ≡ or_else (l2_verdict w i (suc j) es Sound) next
          → (if b then l2_verdict w i (suc j) es next else w.bad2 i j) ≡ or_else (if b then l2_verdict w i (suc j) es Sound else w.bad2 i j) next
      go true h = h
      go false h = sym (d.second i j next)

  pub entry_else : (i e : ℕ) (next : Verdict) → entry_verdict s w i e next ≡ or_else (entry_verdict s w i e Sound) next
  unfolding entry_verdict
  entry_else i e next = go (not (w.good1 e)) (eqb (place e) 0)
    where
      go : (a b : Bool)
          → (if a then w.bad1 i else if b then next else l2_verdict w i 0 (l2_entries s (place e)) next)
          ≡ or_else (if a then w.bad1 i else if b then Sound else l2_verdict w i 0 (l2_entries s (place e)) Sound) next
      go true b = sym (d.first i next)
      go false true = refl
      go false false = l2_else i 0 (l2_entries s (place e)) next

  pub l1_else : (i : ℕ) (es : List ℕ) (next : Verdict) → l1_verdict s w i es next ≡ or_else (l1_verdict s w i es Sound) next
  unfolding l1_verdict
  l1_else i [] next = refl
  l1_else i (e ∷ es) next =
      entry_else i e (l1_verdict s w (suc i) es next)
      ∙ ap (or_else (entry_verdict s w i e Sound)) (l1_else (suc i) es next)
      ∙ else_else (entry_verdict s w i e Sound) (l1_verdict s w (suc i) es Sound) next
      ∙ ap (λ (v : Verdict). or_else v next) (sym (entry_else i e (l1_verdict s w (suc i) es Sound)))

pub roots_else : (s : List ℕ) (t k : ℕ) (next : Verdict) → roots_verdict s t k next ≡ or_else (roots_verdict s t k Sound) next
unfolding roots_verdict
roots_else s t zero next = refl
roots_else s t (suc k) next =
    l1_else s (bad_in s t) (bad_damage s t) 0 (l1_entries s t) (roots_verdict s (suc t) k next)
    ∙ ap (or_else (l1_verdict s (bad_in s t) 0 (l1_entries s t) Sound)) (roots_else s (suc t) k next)
    ∙ else_else (l1_verdict s (bad_in s t) 0 (l1_entries s t) Sound) (roots_verdict s (suc t) k Sound) next
    ∙ ap (λ (v : Verdict). or_else v next) (sym (l1_else s (bad_in s t) (bad_damage s t) 0 (l1_entries s t) (roots_verdict s (suc t) k Sound)))
