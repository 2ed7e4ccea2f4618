-- Laws of the entries ahead: cutting does not matter, and what all of them add and find is what the check counts and finds.
-- Assumes nothing.
use Prim.Native.Nat.{ℕ, zero, suc, ◌+◌, ◌-◌, ◌*◌, ◌≤◌, ◌<◌}
use native.Mathlib.Nat.{sub-zero}
use native.Mathlib.Omega.{arith}
use mathlib.Core.Path.{◌≡◌, refl, sym, ap, ap₂, ◌∙◌}
use mathlib.Core.Logic.{◌⊎◌, inl, inr}
use mathlib.Core.Bool.{true, false}
use mathlib.Core.List.{List, [], ◌∷◌, ◌++◌}
use lib.Dec.{ltb}
use lib.ListN.{length, take, drop, replicate, length-append}
use borrow.Author.Tests.{lt-ltb, le-ltb, ltb-true, ltb-false}
use Rattle.choice.proofs.Tests.{two_ways}
use Rattle.tally.specs.Tally.{run, joined, wide, bump_all_wide}
use Rattle.tally.proofs.States.{bump_all_wide_append}
use Rattle.tally.proofs.Wide.{tallied_wide}
use Rattle.qcow2_spec.specs.Header.{clusters, roots}
use Rattle.qcow2_spec.specs.References.{l1_entries, l1_refs, fixed_refs, root_refs, references, figures_of}
use Rattle.qcow2_spec.specs.Check.{or_else, entry_verdict, l1_verdict, bad_in, roots_verdict}
use Rattle.qcow2_spec.specs.declared.Verdict.{Verdict}
use Rattle.qcow2_spec.specs.declared.Verdict.TheVariants.{Sound}
use Rattle.qcow2_spec.proofs.Else.{else_else, else_sound, entry_else, bad_damage, l1_else}
use Rattle.qcow2_portions.specs.Rows.{Row, rows_of, tables_rows, ahead, added, met, root_after, row_after, started}

-- ---- cutting
pub added_append : (s : List ℕ) (rs qs : List Row) (z : List ℕ) → added s (rs ++ qs) z ≡ added s qs (added s rs z)
unfolding added
added_append s [] qs z = refl
added_append s (r ∷ rs) qs z = added_append s rs qs (bump_all_wide (l1_refs s r.entry) z)

pub met_append : (s : List ℕ) (rs qs : List Row) (v : Verdict) → met s (rs ++ qs) v ≡ met s qs (met s rs v)
unfolding met
met_append s [] qs v = refl
met_append s (r ∷ rs) qs v = met_append s rs qs _

module _ (s : List ℕ) where
  -- ---- one table
  pub added-rows : (t i : ℕ) (es z : List ℕ) → added s (rows_of t i es) z ≡ bump_all_wide (joined (l1_refs s) es) z
  unfolding added rows_of bump_all_wide
  added-rows t i [] z = refl
  added-rows t i (e ∷ es) z = added-rows t (suc i) es _ ∙ sym (bump_all_wide_append (l1_refs s e) (joined (l1_refs s) es) z)

  pub met-rows : (t i : ℕ) (es : List ℕ) (v : Verdict) → met s (rows_of t i es) v ≡ or_else v (l1_verdict s (bad_in s t) i es Sound)
  unfolding met rows_of l1_verdict
  met-rows t i [] v = sym (else_sound v)
  met-rows t i (e ∷ es) v =
      met-rows t (suc i) es _
      ∙ sym (else_else v (entry_verdict s (bad_in s t) i e Sound) (l1_verdict s (bad_in s t) (suc i) es Sound))
      ∙ ap (or_else v) (sym (entry_else s (bad_in s t) (bad_damage s t) i e (l1_verdict s (bad_in s t) (suc i) es Sound)))

  -- ---- all tables
  pub added-tables : (k t : ℕ) (z : List ℕ) → added s (tables_rows s t k) z ≡ bump_all_wide (joined (root_refs s) (run t k)) z
  unfolding added tables_rows run root_refs bump_all_wide
  added-tables zero t z = refl
  added-tables (suc k) t z =
      added_append s (rows_of t 0 (l1_entries s t)) (tables_rows s (suc t) k) z
      ∙ added-tables k (suc t) _
      ∙ ap (bump_all_wide (joined (root_refs s) (run (suc t) k))) (added-rows t 0 (l1_entries s t) z)
      ∙ sym (bump_all_wide_append (joined (l1_refs s) (l1_entries s t)) (joined (root_refs s) (run (suc t) k)) z)

  pub met-tables : (k t : ℕ) (v : Verdict) → met s (tables_rows s t k) v ≡ or_else v (roots_verdict s t k Sound)
  unfolding met tables_rows roots_verdict
  met-tables zero t v = sym (else_sound v)
  met-tables (suc k) t v =
      met_append s (rows_of t 0 (l1_entries s t)) (tables_rows s (suc t) k) v
      ∙ met-tables k (suc t) _
      ∙ ap (λ (u : Verdict). or_else u (roots_verdict s (suc t) k Sound)) (met-rows t 0 (l1_entries s t) v)
      ∙ sym (else_else v (l1_verdict s (bad_in s t) 0 (l1_entries s t) Sound) (roots_verdict s (suc t) k Sound))
      ∙ ap (or_else v) (sym (l1_else s (bad_in s t) (bad_damage s t) 0 (l1_entries s t) (roots_verdict s (suc t) k Sound)))

  -- what all entries add to the fixed references are the figures of the check
  pub added-all : added s (tables_rows s 0 (roots s)) (started s) ≡ wide (figures_of s)
  unfolding started figures_of references
  added-all =
      added-tables (roots s) 0 _
      ∙ sym (bump_all_wide_append (fixed_refs s) (joined (root_refs s) (run 0 (roots s))) (replicate (2 * clusters s) 0))
      ∙ tallied_wide (fixed_refs s ++ joined (root_refs s) (run 0 (roots s))) (clusters s)

  -- and the first bad one is the check's
  pub met_all : met s (tables_rows s 0 (roots s)) Sound ≡ roots_verdict s 0 (roots s) Sound
  met_all = met-tables (roots s) 0 Sound

  -- ---- what is ahead once some are taken
  ahead_in : (t i : ℕ) → t < roots s → ahead s t i ≡ rows_of t i (drop i (l1_entries s t)) ++ tables_rows s (suc t) (roots s - suc t)
  unfolding ahead
  ahead_in t i h = rw (lt-ltb t (roots s) h) refl

  ahead_out : (t i : ℕ) → roots s ≤ t → ahead s t i ≡ []
  unfolding ahead
  ahead_out t i h = rw (le-ltb t (roots s) h) refl

  pub ahead-tables : (t : ℕ) → ahead s t 0 ≡ tables_rows s t (roots s - t)
  unfolding tables_rows
  ahead-tables t = go (two_ways (ltb t (roots s)))
    where
      go : (ltb t (roots s) ≡ true) ⊎ (ltb t (roots s) ≡ false) → ahead s t 0 ≡ tables_rows s t (roots s - t)
      go (inl h) = let e : roots s - t ≡ suc (roots s - suc t) = omega (arith, ltb-true t (roots s) h) in ahead_in t 0 (ltb-true t (roots s) h) ∙ rw e refl
      go (inr h) = let e : roots s - t ≡ 0 = omega (arith, ltb-false t (roots s) h) in ahead_out t 0 (ltb-false t (roots s) h) ∙ rw e refl

  -- the first of the tables' entries is taken
  tables-next : (k t : ℕ) (r : Row) (rs : List Row) → t + k ≡ roots s → tables_rows s t k ≡ r ∷ rs → ahead s r.root (suc r.row) ≡ rs
  unfolding tables_rows rows_of
  tables-next zero t r rs h e = absurd (let z : ◌≡◌ {A = ℕ} 0 1 = ap full e in omega arith)
    where
      full : List Row → ℕ
      full [] = 0
      full (x ∷ xs) = 1
  tables-next (suc k) t r rs h e = go (l1_entries s t) refl e (tables-next k (suc t) r rs (omega arith))
    where
      go : (es : List ℕ) → l1_entries s t ≡ es → rows_of t 0 es ++ tables_rows s (suc t) k ≡ r ∷ rs
          → (tables_rows s (suc t) k ≡ r ∷ rs → ahead s r.root (suc r.row) ≡ rs) → ahead s r.root (suc r.row) ≡ rs
      go [] q f more = more f
      go (x ∷ es) q f more =
          let a : r ≡ record { root = t; row = 0; entry = x } = sym (cc) in
          let b : rows_of t 1 es ++ tables_rows s (suc t) k ≡ rs = cc in
          let n : k ≡ roots s - suc t = omega arith in
          rw (a) (ahead_in t 1 (omega arith) ∙ rw (q) (rw (← n) b))

  drop-next : (i : ℕ) (l : List ℕ) (x : ℕ) (es : List ℕ) → drop i l ≡ x ∷ es → drop (suc i) l ≡ es
  drop-next zero [] x es e = cc
  drop-next zero (y ∷ l) x es e = cc
  drop-next (suc i) [] x es e = cc
  drop-next (suc i) (y ∷ l) x es e = drop-next i l x es e

  -- the first of those ahead is taken
  pub ahead-next : (t i : ℕ) (r : Row) (rs : List Row) → ahead s t i ≡ r ∷ rs → ahead s r.root (suc r.row) ≡ rs
  unfolding rows_of
  ahead-next t i r rs e = way (two_ways (ltb t (roots s)))
    where
      full : List Row → ℕ
      full [] = 0
      full (x ∷ xs) = 1

      inside : t < roots s → (es : List ℕ) → drop i (l1_entries s t) ≡ es → rows_of t i es ++ tables_rows s (suc t) (roots s - suc t) ≡ r ∷ rs → ahead s r.root (suc r.row) ≡ rs
      inside l [] q f = tables-next (roots s - suc t) (suc t) r rs (omega arith) f
      inside l (x ∷ es) q f =
          let a : r ≡ record { root = t; row = i; entry = x } = sym (cc) in
          let b : rows_of t (suc i) es ++ tables_rows s (suc t) (roots s - suc t) ≡ rs = cc in
          rw a (ahead_in t (suc i) l ∙ rw (drop-next i (l1_entries s t) x es q) b)

      way : (ltb t (roots s) ≡ true) ⊎ (ltb t (roots s) ≡ false) → ahead s r.root (suc r.row) ≡ rs
      way (inl h) = let l = ltb-true t (roots s) h in inside l (drop i (l1_entries s t)) refl (sym (ahead_in t i l) ∙ e)
      way (inr h) = absurd (let z : ◌≡◌ {A = ℕ} 0 1 = ap full (sym (ahead_out t i (ltb-false t (roots s) h)) ∙ e) in omega arith)

  -- once m of them are taken, the others are ahead
  pub ahead_after : (m t i : ℕ) (rs : List Row) → ahead s t i ≡ rs → ahead s (root_after t (take m rs)) (row_after i (take m rs)) ≡ drop m rs
  unfolding root_after row_after
  ahead_after zero t i rs e = e
  ahead_after (suc m) t i [] e = e
  ahead_after (suc m) t i (r ∷ rs) e = ahead_after m r.root (suc r.row) rs (ahead-next t i r rs e)

  -- ---- how many are ahead
  pub length_rows_of : (t i : ℕ) (es : List ℕ) → length (rows_of t i es) ≡ length es
  unfolding rows_of
  length_rows_of t i [] = refl
  length_rows_of t i (e ∷ es) = ap suc (length_rows_of t (suc i) es)

  pub length-ahead : (t i : ℕ) → t < roots s → length (ahead s t i) ≡ length (drop i (l1_entries s t)) + length (ahead s (suc t) 0)
  length-ahead t i h =
      ap length (ahead_in t i h)
      ∙ length-append (rows_of t i (drop i (l1_entries s t))) (tables_rows s (suc t) (roots s - suc t))
      ∙ ap₂ (λ (a b : ℕ). a + b) (length_rows_of t i (drop i (l1_entries s t))) (ap length (sym (ahead-tables (suc t))))

  pub length-ahead_out : (t i : ℕ) → roots s ≤ t → length (ahead s t i) ≡ 0
  length-ahead_out t i h = ap length (ahead_out t i h)

  -- ---- table by table
  -- those of one table come first
  take-rows : (m t i : ℕ) (es : List ℕ) (qs : List Row) → m ≤ length es → take m (rows_of t i es ++ qs) ≡ rows_of t i (take m es)
  unfolding rows_of
  take-rows zero t i es qs l = refl
  take-rows (suc m) t i [] qs l = absurd (omega arith)
  take-rows (suc m) t i (e ∷ es) qs l = ap (λ (rs : List Row). record { root = t; row = i; entry = e } ∷ rs) (take-rows m t (suc i) es qs (omega arith))

  pub take_within : (m t i : ℕ) → t < roots s → m ≤ length (drop i (l1_entries s t)) → take m (ahead s t i) ≡ rows_of t i (take m (drop i (l1_entries s t)))
  take_within m t i h l = ap (take m) (ahead_in t i h) ∙ take-rows m t i (drop i (l1_entries s t)) (tables_rows s (suc t) (roots s - suc t)) l

  take_past : (m t i : ℕ) (es : List ℕ) (qs : List Row) → length es ≤ m → take m (rows_of t i es ++ qs) ≡ rows_of t i es ++ take (m - length es) qs
  unfolding rows_of
  take_past m t i [] qs l = ap (λ (k : ℕ). take k qs) (sym (sub-zero m))
  take_past zero t i (e ∷ es) qs l = absurd (omega arith)
  take_past (suc m) t i (e ∷ es) qs l =
      let k : m - length es ≡ suc m - suc (length es) = omega arith in
      ap (λ (rs : List Row). record { root = t; row = i; entry = e } ∷ rs)
      (take_past m t (suc i) es qs (omega arith) ∙ ap (λ (n : ℕ). rows_of t (suc i) es ++ take n qs) k)

  -- then those of the next
  pub take_across : (m t i : ℕ) → t < roots s → length (drop i (l1_entries s t)) ≤ m
      → take m (ahead s t i) ≡ rows_of t i (drop i (l1_entries s t)) ++ take (m - length (drop i (l1_entries s t))) (ahead s (suc t) 0)
  take_across m t i h l =
      ap (take m) (ahead_in t i h) ∙ take_past m t i (drop i (l1_entries s t)) (tables_rows s (suc t) (roots s - suc t)) l
      ∙ ap (λ (q : List Row). rows_of t i (drop i (l1_entries s t)) ++ take (m - length (drop i (l1_entries s t))) q) (sym (ahead-tables (suc t)))

-- ---- where the check stands after entries of one table
pub root_after-rows : (t i : ℕ) (es : List ℕ) → root_after t (rows_of t i es) ≡ t
unfolding root_after rows_of
root_after-rows t i [] = refl
root_after-rows t i (e ∷ es) = root_after-rows t (suc i) es

pub row_after-rows : (t i : ℕ) (es : List ℕ) → row_after i (rows_of t i es) ≡ i + length es
unfolding row_after rows_of
row_after-rows t i [] = omega arith
row_after-rows t i (e ∷ es) = row_after-rows t (suc i) es ∙ omega arith

-- and after others that follow them
pub root_after_append : (t u : ℕ) (rs qs : List Row) → 0 < length qs → root_after t (rs ++ qs) ≡ root_after u qs
unfolding root_after
root_after_append t u [] [] h = absurd (omega arith)
root_after_append t u [] (q ∷ qs) h = refl
root_after_append t u (r ∷ rs) qs h = root_after_append r.root u rs qs h

pub row_after_append : (i j : ℕ) (rs qs : List Row) → 0 < length qs → row_after i (rs ++ qs) ≡ row_after j qs
unfolding row_after
row_after_append i j [] [] h = absurd (omega arith)
row_after_append i j [] (q ∷ qs) h = refl
row_after_append i j (r ∷ rs) qs h = row_after_append (suc r.row) j rs qs h
