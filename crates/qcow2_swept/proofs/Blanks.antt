-- L1 entries that are 0 refer to nothing and pass, so that a sweep may leave them out.
-- Assumes nothing.
use Prim.Native.Nat.{ℕ, zero, suc, ◌+◌, ◌-◌, ◌*◌, ◌≤◌, ◌<◌}
use native.Mathlib.Omega.{arith}
use mathlib.Core.Path.{◌≡◌, refl, sym, ap, ◌∙◌}
use mathlib.Core.Logic.{◌⊎◌, inl, inr}
use mathlib.Core.Bool.{Bool, true, false, not, ◌&&◌}
use mathlib.Core.List.{List, []}
use borrow.Author.Tests.{eqb-true, ltb-true, ltb-false}
use lib.Dec.{eqb, ltb}
use lib.ListN.{length, take, drop, length-drop}
use Rattle.choice.specs.Pick.{all}
use Rattle.choice.proofs.Tests.{two_ways}
use Rattle.endian.specs.Big.{be64, entries}
use Rattle.endian.proofs.Entries.{be64-drop}
use Rattle.blank.proofs.Zeros.{is_zero, entries-zeros}
use Rattle.window.specs.Window.{Board, entry_visited_in, tree_visited_in}
use Rattle.window.proofs.Steps.{visit_all_in-none}
use Rattle.qcow2_spec.specs.Header.{cluster_size, root_at}
use Rattle.qcow2_spec.specs.Entries.{place, common, good_l1, good_place}
use Rattle.qcow2_spec.specs.References.{l1_refs}
use Rattle.qcow2_spec.specs.Check.{or_else, entry_verdict, l1_verdict}
use Rattle.qcow2_spec.specs.declared.Verdict.{Verdict}
use Rattle.qcow2_spec.specs.declared.Verdict.TheVariants.{Sound}
use Rattle.qcow2_spec.proofs.Facts.{all-entries}
use Rattle.qcow2_spec.proofs.Else.{else_sound}
use Rattle.qcow2_swept.specs.Rows.{passes_l1_by, seek_by, Blank}
use Rattle.qcow2_swept.proofs.Verdicts.{rows_turn}
use Rattle.qcow2_swept.proofs.Tables.{tree_turn}

-- ---- searching
module _ (s : List ℕ) (at : ℕ) where
  pub blank_none : (i : ℕ) → Blank s at i i
  blank_none i = record { on = omega arith; zero = λ k a b. absurd (omega arith) }

  pub blank_one : (i j : ℕ) → Blank s at i j → be64 s (at + 8 * j) ≡ 0 → Blank s at i (j + 1)
  blank_one i j b e = record { on = omega (arith, b.on); zero = λ k a l. go k a l (two_ways (ltb k j)) }
    where
      go : (k : ℕ) → i ≤ k → k < j + 1 → (ltb k j ≡ true) ⊎ (ltb k j ≡ false) → be64 s (at + 8 * k) ≡ 0
      go k a l (inl h) = b.zero k a (ltb-true k j h)
      go k a l (inr h) = let q : k ≡ j = omega (arith, ltb-false k j h) in rw q e

  -- 64 at a time
  pub blank_group : (i j : ℕ) → Blank s at i j → at + 8 * j + 512 ≤ length s → all is_zero (take 512 (drop (at + 8 * j) s)) ≡ true → Blank s at i (j + 64)
  blank_group i j b f z = record { on = omega (arith, b.on); zero = λ k a l. go k a l (two_ways (ltb k j)) }
    where
      es : all is_zero (entries 64 (drop (at + 8 * j) s)) ≡ true
      es = sym (entries-zeros 64 (drop (at + 8 * j) s) (simp length-drop (omega arith))) ∙ z

      go : (k : ℕ) → i ≤ k → k < j + 64 → (ltb k j ≡ true) ⊎ (ltb k j ≡ false) → be64 s (at + 8 * k) ≡ 0
      go k a l (inl h) = b.zero k a (ltb-true k j h)
      go k a l (inr h) =
          let g = ltb-false k j h in
          let x : be64 s (at + 8 * j + 8 * (k - j)) ≡ 0 = rw (be64-drop s (at + 8 * j) (8 * (k - j))) at (eqb-true (be64 (drop (at + 8 * j) s) (8 * (k - j))) 0 (all-entries is_zero 64 (drop (at + 8 * j) s) es (k - j) (omega arith))) in
          let q : at + 8 * j + 8 * (k - j) ≡ at + 8 * k = omega arith in
          rw q at x

-- ---- what is left out
module _ (s : List ℕ) where
  zero-good : good_l1 (cluster_size s) (length s) 0 ≡ true
  unfolding good_l1 good_place place
  zero-good = refl

  zero-passes : (kind : ℕ) → passes_l1_by kind (cluster_size s) (length s) 0 ≡ true
  unfolding passes_l1_by common place
  zero-passes kind = rw zero-good (go (eqb kind 512))
    where
      go : (b : Bool) → not (b && false) ≡ true
      go true = refl
      go false = refl

  zero_row : (kind t i : ℕ) → entry_verdict s (seek_by kind s t) i 0 Sound ≡ Sound
  unfolding entry_verdict seek_by place
  zero_row kind t i = rw (zero-passes kind) refl

  zero_refs : l1_refs s 0 ≡ []
  unfolding l1_refs place
  zero_refs = rw zero-good refl

  module _ (kind t to : ℕ) (l : List ℕ) (found : Verdict) where
    pub rows_skip : (n i r : ℕ) → r ≡ i + n → r ≤ to → ((k : ℕ) → i ≤ k → k < r → be64 l (8 * k) ≡ 0)
        → or_else found (l1_verdict s (seek_by kind s t) i (entries (to - i) (drop (8 * i) l)) Sound) ≡ or_else found (l1_verdict s (seek_by kind s t) r (entries (to - r) (drop (8 * r) l)) Sound)
    rows_skip zero i r e h z = let q : r ≡ i = omega arith in rw q refl
    rows_skip (suc n) i r e h z =
        let x : entry_verdict s (seek_by kind s t) i (be64 l (8 * i)) Sound ≡ Sound = rw (z i (omega arith) (omega arith)) (zero_row kind t i) in
        rows_turn kind s t to i l found (omega arith)
        ∙ ap (λ (v : Verdict). or_else (or_else found v) (l1_verdict s (seek_by kind s t) (i + 1) (entries (to - (i + 1)) (drop (8 * (i + 1)) l)) Sound)) x
        ∙ ap (λ (v : Verdict). or_else v (l1_verdict s (seek_by kind s t) (i + 1) (entries (to - (i + 1)) (drop (8 * (i + 1)) l)) Sound)) (else_sound found)
        ∙ rows_skip n (i + 1) r (omega arith) h (λ k a b. z k (omega arith) b)

  module _ (table leaf b to : ℕ) (l : List ℕ) where
    pub tree_skip : (n i r : ℕ) (w : Board) → r ≡ i + n → r ≤ to → ((k : ℕ) → i ≤ k → k < r → be64 l (8 * k) ≡ 0)
        → tree_visited_in (l1_refs s) table leaf b (entries (to - i) (drop (8 * i) l)) w ≡ tree_visited_in (l1_refs s) table leaf b (entries (to - r) (drop (8 * r) l)) w
    unfolding entry_visited_in
    tree_skip zero i r w e h z = let q : r ≡ i = omega arith in rw q refl
    tree_skip (suc n) i r w e h z =
        let x : entry_visited_in table leaf b (l1_refs s (be64 l (8 * i))) w ≡ w = rw (z i (omega arith) (omega arith), zero_refs) (sym (visit_all_in-none table b w ∙ visit_all_in-none leaf b _)) in
        tree_turn (l1_refs s) table leaf b to i l w (omega arith)
        ∙ ap (tree_visited_in (l1_refs s) table leaf b (entries (to - (i + 1)) (drop (8 * (i + 1)) l))) x
        ∙ tree_skip n (i + 1) r w (omega arith) h (λ k a q. z k (omega arith) q)

  -- ---- in the numbers of the code: what is left from index i of L1 table t on is what is left from r on
  module _ (kind t table b to at i r : ℕ) (found : Verdict) (w : Board) (is_at : at ≡ root_at s t) (z : Blank s at i r) (h : r ≤ to) where
    zeros : (k : ℕ) → i ≤ k → k < r → be64 (drop (root_at s t) s) (8 * k) ≡ 0
    zeros k a q = be64-drop s (root_at s t) (8 * k) ∙ (rw is_at at (z.zero k a q))

    pub rows_left_lem : or_else found (l1_verdict s (seek_by kind s t) i (entries (to - i) (drop (8 * i) (drop (root_at s t) s))) Sound)
        ≡ or_else found (l1_verdict s (seek_by kind s t) r (entries (to - r) (drop (8 * r) (drop (root_at s t) s))) Sound)
    rows_left_lem = rows_skip kind t to (drop (root_at s t) s) found (r - i) i r (omega (arith, z.on)) h zeros

    pub tree_left : tree_visited_in (l1_refs s) table kind b (entries (to - i) (drop (8 * i) (drop (root_at s t) s))) w
        ≡ tree_visited_in (l1_refs s) table kind b (entries (to - r) (drop (8 * r) (drop (root_at s t) s))) w
    tree_left = tree_skip table kind b to (drop (root_at s t) s) (r - i) i r w (omega (arith, z.on)) h zeros
