-- Laws of a search over an L1 table for the first entry that fails.
-- Assumes nothing.
use Rattle.std.specs.Prelude.{if◌then◌else◌}
use Prim.Native.Nat.{ℕ, zero, suc, ◌+◌, ◌-◌, ◌*◌, ◌≤◌, ◌<◌}
use mathlib.Core.Path.{◌≡◌, refl, sym, ◌∙◌}
use mathlib.Core.Bool.{Bool, true, false, not, ◌||◌, true≢false}
use mathlib.Core.List.{List, [], ◌∷◌}
use native.Mathlib.Nat.{sub-zero}
use native.Mathlib.Omega.{arith}
use borrow.Author.Tests.{ltb-true, ltb-false}
use lib.Dec.{eqb, ltb}
use lib.ListN.{drop}
use Rattle.choice.specs.Pick.{all}
use Rattle.choice.proofs.Tests.{and-true}
use Rattle.endian.specs.Big.{entries, part}
use Rattle.endian.proofs.Entries.{be64-drop, entries_turn, entries_none}
use Rattle.qcow2_spec.specs.Header.{cluster_size, per_table, root_at, root_size}
use Rattle.qcow2_spec.specs.Entries.{place}
use Rattle.qcow2_spec.specs.References.{l1_entries, l2_entries}
use Rattle.qcow2_spec.specs.Check.{Seek, l2_verdict, entry_verdict, l1_verdict, bad_in, wrong_marks}
use Rattle.qcow2_spec.specs.declared.Verdict.{Verdict}
use Rattle.qcow2_spec.specs.declared.Verdict.TheVariants.{Sound, BadL1, BadL2, MarkL1, MarkL2}
use Rattle.qcow2_refs.specs.Walks.{row_at, below_at}
use Rattle.qcow2_marks.specs.Marks.{unharmed, UnharmedTo}
use Rattle.qcow2_fails.specs.Seeks.{below_count, BelowTo, seek_of}

-- where no entry fails nothing is found
l2_all : (w : Seek) (i j : ℕ) (es : List ℕ) (next : Verdict) → all w.good2 es ≡ true → l2_verdict w i j es next ≡ next
unfolding l2_verdict
l2_all w i j [] next h = refl
l2_all w i j (e ∷ es) next h =
    let k = and-true (w.good2 e) (all w.good2 es) h in
    rw k.0 (l2_all w i (suc j) es next k.1)

module _ (s : List ℕ) (w : Seek) where
  entry-all : (i e : ℕ) (next : Verdict) → unharmed s w e ≡ true → entry_verdict s w i e next ≡ next
  unfolding unharmed entry_verdict
  entry-all i e next h =
      let k = and-true (w.good1 e) (eqb (place e) 0 || all w.good2 (l2_entries s (place e))) h in
      rw k.0 (go (eqb (place e) 0) k.1)
    where
      go : (t : Bool) → (t || all w.good2 (l2_entries s (place e))) ≡ true
          → (if t then next else l2_verdict w i 0 (l2_entries s (place e)) next) ≡ next
      go true g = refl
      go false g = l2_all w i 0 (l2_entries s (place e)) next g

  module _ (t : ℕ) where
    -- what is found from entry i of L1 table t on, and from entry j below it on
    unfoldable pub rows_from : ℕ → Verdict
    rows_from i = l1_verdict s w i (entries (root_size s t - i) (drop (8 * i) (drop (root_at s t) s))) Sound

    unfoldable pub below_from : (i j : ℕ) → Verdict
    below_from i j =
        l2_verdict w i j (entries (below_count s t i - j) (drop (8 * j) (part s (place (row_at s t i)) (cluster_size s)))) (rows_from (i + 1))

    pub rows-first : rows_from 0 ≡ l1_verdict s w 0 (l1_entries s t) Sound
    unfolding rows_from l1_entries
    rows-first = rw sub-zero

    -- the entries from i on
    rows_turn : (i : ℕ) → i < root_size s t → rows_from i ≡ entry_verdict s w i (row_at s t i) (rows_from (i + 1))
    unfolding rows_from l1_verdict row_at
    rows_turn i h =
        let f : suc i ≡ i + 1 = omega arith in
        rw (entries_turn (root_size s t) i (drop (root_at s t) s) h, be64-drop s (root_at s t) (8 * i), f)

    pub rows_hit : (i : ℕ) → i < root_size s t → not (w.good1 (row_at s t i)) ≡ true → rows_from i ≡ w.bad1 i
    unfolding entry_verdict
    rows_hit i h e = rows_turn i h ∙ rw e

    pub rows_miss : (i : ℕ) → i < root_size s t → not (w.good1 (row_at s t i)) ≡ false → rows_from i ≡ below_from i 0
    unfolding entry_verdict below_from below_count l2_entries l2_verdict entries
    rows_miss i h e = rows_turn i h ∙ (rw e (go (eqb (place (row_at s t i)) 0)))
      where
        go : (b : Bool) → (if b then rows_from (i + 1) else l2_verdict w i 0 (entries (per_table s) (part s (place (row_at s t i)) (cluster_size s))) (rows_from (i + 1)))
            ≡ l2_verdict w i 0 (entries ((if b then 0 else per_table s) - 0) (part s (place (row_at s t i)) (cluster_size s))) (rows_from (i + 1))
        go true = refl
        go false = rw sub-zero

    pub rows_none : (i : ℕ) → root_size s t ≤ i → rows_from i ≡ Sound
    unfolding rows_from l1_verdict
    rows_none i h = rw (entries_none (root_size s t) i (drop (root_at s t) s) h)

    -- the entries from j on below one
    below_turn : (i j : ℕ) → j < below_count s t i → below_from i j ≡ (if w.good2 (below_at s t i j) then below_from i (j + 1) else w.bad2 i j)
    unfolding below_from l2_verdict below_at
    below_turn i j h =
        let f : suc j ≡ j + 1 = omega arith in
        rw (entries_turn (below_count s t i) j (part s (place (row_at s t i)) (cluster_size s)) h, f)

    pub below_hit : (i j : ℕ) → j < below_count s t i → not (w.good2 (below_at s t i j)) ≡ true → below_from i j ≡ w.bad2 i j
    below_hit i j h e = below_turn i j h ∙ go (w.good2 (below_at s t i j)) e
      where
        go : (b : Bool) → not b ≡ true → (if b then below_from i (j + 1) else w.bad2 i j) ≡ w.bad2 i j
        go true k = absurd (true≢false (sym k))
        go false k = refl

    pub below_miss : (i j : ℕ) → j < below_count s t i → w.good2 (below_at s t i j) ≡ true → below_from i j ≡ below_from i (j + 1)
    below_miss i j h e = below_turn i j h ∙ rw e

    pub below_none : (i j : ℕ) → below_count s t i ≤ j → below_from i j ≡ rows_from (i + 1)
    unfolding below_from l2_verdict
    below_none i j h = rw (entries_none (below_count s t i) j (part s (place (row_at s t i)) (cluster_size s)) h)

    -- entries that don't fail may be left out, with all below them
    pub rows_later : (i : ℕ) → i ≤ root_size s t → UnharmedTo s w t i → rows_from i ≡ rows_from 0
    rows_later zero h g = refl
    rows_later (suc i) h g =
        let e : i + 1 ≡ suc i = omega arith in
        let u : rows_from i ≡ rows_from (i + 1) = rows_turn i (omega arith) ∙ entry-all i (row_at s t i) (rows_from (i + 1)) (g i (omega arith)) in
        (rw e at (sym u)) ∙ rows_later i (omega arith) (λ k l. g k (omega arith))

    -- and so may the first ones below an entry
    pub below_later : (i j : ℕ) → BelowTo s w t i j → below_from i j ≡ below_from i 0
    below_later i zero g = refl
    below_later i (suc j) g = (rw e at (go (ltb j (below_count s t i)) refl)) ∙ below_later i j (λ k l. g k (omega arith))
      where
        e : j + 1 ≡ suc j
        e = omega arith

        go : (b : Bool) → ltb j (below_count s t i) ≡ b → below_from i (j + 1) ≡ below_from i j
        go true q = sym (below_miss i j (ltb-true _ _ q) (g j (omega arith)))
        go false q = let c = ltb-false j (below_count s t i) q in below_none i (j + 1) (omega arith) ∙ sym (below_none i j c)

-- how the search names what fails
pub names_row : (marks : Bool) (s fs : List ℕ) (t i : ℕ) → (seek_of marks s fs t).bad1 i ≡ (if marks then MarkL1 i else BadL1 t i)
unfolding bad_in wrong_marks
names_row true s fs t i = refl
names_row false s fs t i = refl

pub names_below : (marks : Bool) (s fs : List ℕ) (t i j : ℕ) → (seek_of marks s fs t).bad2 i j ≡ (if marks then MarkL2 i j else BadL2 t i j)
unfolding bad_in wrong_marks
names_below true s fs t i j = refl
names_below false s fs t i j = refl
