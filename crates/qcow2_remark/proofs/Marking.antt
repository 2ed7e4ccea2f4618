-- Laws of the search for a wrong mark where entries may be bad.
-- Assumes nothing.
use Rattle.std.specs.Prelude.{if◌then◌else◌}
use Prim.Native.Nat.{ℕ, suc, ◌+◌, ◌-◌, ◌*◌, ◌/◌, ◌^◌, ◌≤◌, ◌<◌}
use mathlib.Core.Path.{◌≡◌, refl, sym, ap, ◌∙◌}
use mathlib.Core.Bool.{Bool, true, false, not, ◌||◌}
use mathlib.Core.Logic.{◌⊎◌, inl, inr}
use mathlib.Core.List.{List, [], ◌∷◌}
use native.Mathlib.Nat.{zero-add, add-zero, sub-zero}
use native.Mathlib.Omega.{arith}
use borrow.Author.Tests.{lt-ltb, le-ltb, ltb-true, ltb-false, eq-eqb, ne_eqb}
use lib.Dec.{eqb, ltb}
use lib.ListN.{length, take, drop}
use Rattle.choice.proofs.Tests.{two_ways}
use Rattle.endian.specs.Big.{entries, part}
use Rattle.endian.proofs.Entries.{be64-drop, length-entries, entries-whole, entries_turn, entries_none}
use Rattle.tally.specs.States.{twos}
use Rattle.packed.proofs.Parts.{length_part}
use Rattle.qcow2_spec.specs.Header.{cluster_size, per_table, root_at, root_size}
use Rattle.qcow2_spec.specs.Entries.{place, good_l1, good_l2}
use Rattle.qcow2_spec.specs.References.{l1_entries, l2_entries}
use Rattle.qcow2_spec.specs.Check.{Seek, l2_verdict, entry_verdict, l1_verdict, right_mark}
use Rattle.qcow2_spec.specs.Opened.{Opened, Active}
use Rattle.qcow2_spec.specs.declared.Geometry.{Geometry}
use Rattle.qcow2_spec.specs.declared.Verdict.{Verdict}
use Rattle.qcow2_spec.specs.declared.Verdict.TheVariants.{Sound, MarkL1, MarkL2}
use Rattle.qcow2_groups.specs.Walks.{Room, fore, whole, on_from}
use Rattle.qcow2_groups.proofs.Fores.{fore-most}
use Rattle.qcow2_refs.specs.Walks.{row_at}
use Rattle.qcow2_marks.specs.Marks.{right, Fair}
use Rattle.qcow2_marks.proofs.Fairs.{l1_fair, l2_fair}
use Rattle.qcow2_marks.proofs.Rights.{right_is}
use Rattle.qcow2_portions.specs.Last.{passed_l1, passed_all, good_marks, marks_verdict}
use Rattle.qcow2_remark.specs.Fores.{right_l2, row_fore}

-- ---- entries at the front of a list
fore-same : (p q : ℕ → Bool) (es : List ℕ) → ((e : ℕ) → p e ≡ q e) → fore p es ≡ fore q es
unfolding fore
fore-same p q [] h = refl
fore-same p q (e ∷ es) h = rw (h e, fore-same p q es h)

pub fore-whole : (p : ℕ → Bool) (t : List ℕ) → 0 + fore p (on_from 0 t) ≡ fore p (whole t)
fore-whole p t = rw (entries-whole (length t / 8) t) (omega arith)

ltb-suc : (a b : ℕ) → ltb (suc a) (suc b) ≡ ltb a b
ltb-suc a b = go (ltb a b) refl
  where
    go : (t : Bool) → ltb a b ≡ t → ltb (suc a) (suc b) ≡ t
    go true h = lt-ltb (suc a) (suc b) (omega (arith, ltb-true a b h))
    go false h = le-ltb (suc a) (suc b) (omega (arith, ltb-false a b h))

-- what a search over L2 entries finds, by how many do not fail at their front
l2_fore : (w : Seek) (i j : ℕ) (es : List ℕ) (next : Verdict)
    → l2_verdict w i j es next ≡ (if ltb (fore w.good2 es) (length es) then w.bad2 i (j + fore w.good2 es) else next)
unfolding l2_verdict fore
l2_fore w i j [] next = refl
l2_fore w i j (e ∷ es) next = go (w.good2 e) (l2_fore w i (suc j) es next)
  where
    k : ℕ
    k = fore w.good2 es

    same : suc j + k ≡ j + suc k
    same = omega arith

    go : (b : Bool) → l2_verdict w i (suc j) es next ≡ (if ltb k (length es) then w.bad2 i (suc j + k) else next)
        → (if b then l2_verdict w i (suc j) es next else w.bad2 i j)
        ≡ (if ltb (if b then suc k else 0) (suc (length es)) then w.bad2 i (j + (if b then suc k else 0)) else next)
    go true h = h ∙ rw (ltb-suc k (length es), same)
    go false h = rw (add-zero j, lt-ltb 0 (suc (length es)) (omega arith))

-- ---- marks by the bytes of a scratch
pub room_fair : (scratch : List ℕ) (v b n e : ℕ) → Room scratch b n → good_l2 v (2 ^ b) n e ≡ true → Fair (2 ^ b) (length scratch / 2) e
room_fair scratch v b n e r h =
    let m : length scratch / 2 ≡ r.clusters = omega (arith, r.holds) in
    rw m (l2_fair b n r.clusters e r.some r.fits v h)

module _ (g : Geometry) (s scratch : List ℕ) (o : Opened g s) where
  abbrev fs : List ℕ
  fs = twos scratch 0 g.clusters

  abbrev C : ℕ
  C = 2 ^ g.bits

  some : 1 ≤ length s
  some = omega (arith, o.long)

  fair : (e : ℕ) → good_l1 C (length s) e ≡ true → Fair C g.clusters e
  fair e h = l1_fair g.bits (length s) g.clusters e some o.whole h

  pub row_fair : (e : ℕ) → length scratch ≡ 2 * g.clusters → good_l1 C (length s) e ≡ true → Fair C (length scratch / 2) e
  row_fair e l h =
      let m : length scratch / 2 ≡ g.clusters = omega (arith, l) in
      rw m (fair e h)

  l1_right : (e : ℕ) → good_l1 C (length s) e ≡ true → right_mark s fs e ≡ right C scratch e
  l1_right e h = right_is s scratch C g.clusters e o.is-cluster (fair e h)

  l2_right : (e : ℕ) → right_l2 g.version C (length s) scratch e ≡ (good_marks s fs).good2 e
  unfolding right_l2 good_marks
  l2_right e = rw (← o.is-cluster, ← o.is-version) (go (good_l2 g.version C (length s) e) refl)
    where
      go : (b : Bool) → good_l2 g.version C (length s) e ≡ b → (not b || right C scratch e) ≡ (not b || right_mark s fs e)
      go true h = sym (right_is s scratch C g.clusters e o.is-cluster (l2_fair g.bits (length s) g.clusters e some o.whole g.version h))
      go false h = refl

  -- a table that is lent as a part of the image
  pub below-part : (p : ℕ) (T : List ℕ) → p + C ≤ length s → T ≡ take C (drop p s)
      → fore (right_l2 g.version C (length s) scratch) (whole T) ≡ fore (good_marks s fs).good2 (l2_entries s p)
  unfolding l2_entries per_table
  below-part p T fits h =
      let e : whole T ≡ entries (cluster_size s / 8) (part s p (cluster_size s)) = rw (h, length_part s p C fits, o.is-cluster) in
      ap (fore (right_l2 g.version C (length s) scratch)) e ∙ fore-same _ _ (entries (cluster_size s / 8) (part s p (cluster_size s))) l2_right

  -- how many entries a table has, where x is a cluster's length
  per-is : (x : ℕ) → x ≡ C → x / 8 ≡ per_table s
  unfolding per_table
  per-is x h = rw (h, o.is-cluster)

  -- the figure of an L1 entry
  module _ (x e : ℕ) (hx : x ≡ C) where
    pub row-bad : good_l1 C (length s) e ≡ false → x / 8 ≡ row_fore s fs e
    unfolding row_fore
    row-bad h = rw (← o.is-cluster, h) (per-is x hx)

    module _ (h : good_l1 C (length s) e ≡ true) where
      pub row-own : right C scratch e ≡ false → x / 8 + 1 ≡ row_fore s fs e
      unfolding row_fore
      row-own r = rw (← o.is-cluster, h, l1_right e h, r) (ap (λ (n : ℕ). n + 1) (per-is x hx))

      pub row-none : right C scratch e ≡ true → place e ≡ 0 → x / 8 ≡ row_fore s fs e
      unfolding row_fore
      row-none r z = rw (← o.is-cluster, h, l1_right e h, r, eq-eqb (place e) 0 z) (per-is x hx)

      pub row-some : right C scratch e ≡ true → (place e ≡ 0 → ⊥) → fore (good_marks s fs).good2 (l2_entries s (place e)) ≡ row_fore s fs e
      unfolding row_fore
      row-some r z = rw (← o.is-cluster, h, l1_right e h, r, ne_eqb (place e) 0 z)

module _ (s fs : List ℕ) where
  -- what is found in an entry and below it, by its figure
  abbrev named : (i k : ℕ) (next : Verdict) → Verdict
  named i k next = if ltb k (per_table s) then MarkL2 i k else if ltb (per_table s) k then MarkL1 i else next

  named-all : (i : ℕ) (next : Verdict) → named i (per_table s) next ≡ next
  named-all i next = rw (le-ltb (per_table s) (per_table s) (omega arith))

  named-below : (i : ℕ) (es : List ℕ) (next : Verdict) → length es ≡ per_table s → l2_verdict (good_marks s fs) i 0 es next ≡ named i (fore (good_marks s fs).good2 es) next
  unfolding good_marks
  named-below i es next h =
      let k : ℕ = fore (good_marks s fs).good2 es in
      let l : k ≤ per_table s = rw h at (fore-most (good_marks s fs).good2 es) in
      l2_fore (good_marks s fs) i 0 es next ∙ rw (h, le-ltb (per_table s) k l, zero-add k)

  -- a bad entry is passed over: it counts as 0
  found : (i e : ℕ) (next : Verdict) → entry_verdict s (good_marks s fs) i (passed_l1 s e) next ≡ named i (row_fore s fs e) next
  unfolding entry_verdict good_marks passed_l1 row_fore right_mark place l2_entries
  found i e next = go (two_ways (good_l1 (cluster_size s) (length s) e)) (two_ways (right_mark s fs e)) (two_ways (eqb (place e) 0))
    where
      go : (good_l1 (cluster_size s) (length s) e ≡ true) ⊎ (good_l1 (cluster_size s) (length s) e ≡ false) → (right_mark s fs e ≡ true) ⊎ (right_mark s fs e ≡ false)
          → (eqb (place e) 0 ≡ true) ⊎ (eqb (place e) 0 ≡ false) → entry_verdict s (good_marks s fs) i (passed_l1 s e) next ≡ named i (row_fore s fs e) next
      go (inr h) r z = rw h (sym (named-all i next))
      go (inl h) (inr r) z = rw (h, r, le-ltb (per_table s + 1) (per_table s) (omega arith), lt-ltb (per_table s) (per_table s + 1) (omega arith))
      go (inl h) (inl r) (inl z) = rw (h, r, z) (sym (named-all i next))
      go (inl h) (inl r) (inr z) = rw (h, r, z) (named-below i (l2_entries s (place e)) next (length-entries (per_table s) (part s (place e) (cluster_size s))))

  -- ---- what is found from L1 entry i of the active table on
  unfoldable pub marks_from : ℕ → Verdict
  marks_from i = l1_verdict s (good_marks s fs) i (passed_all s (entries (root_size s 0 - i) (drop (8 * i) (drop (root_at s 0) s)))) Sound

  pub marks-first : marks_from 0 ≡ marks_verdict s fs Sound
  unfolding marks_from marks_verdict l1_entries
  marks-first = rw sub-zero

  marks_turn : (i : ℕ) → i < root_size s 0 → marks_from i ≡ named i (row_fore s fs (row_at s 0 i)) (marks_from (i + 1))
  unfolding marks_from l1_verdict passed_all row_at
  marks_turn i h =
      let f : suc i ≡ i + 1 = omega arith in
      rw (entries_turn (root_size s 0) i (drop (root_at s 0) s) h, be64-drop s (root_at s 0) (8 * i), f) (found i (row_at s 0 i) (marks_from (i + 1)))

  -- by the figure k of entry i
  module _ (i k : ℕ) (h : i < root_size s 0) (e : k ≡ row_fore s fs (row_at s 0 i)) where
    turn : marks_from i ≡ named i k (marks_from (i + 1))
    turn = rw e (marks_turn i h)

    below : k < per_table s → marks_from i ≡ MarkL2 i k
    below l = turn ∙ rw (lt-ltb k (per_table s) l)

    own : per_table s < k → marks_from i ≡ MarkL1 i
    own l = turn ∙ rw (le-ltb k (per_table s) (omega arith), lt-ltb (per_table s) k l)

    later : per_table s ≤ k → k ≤ per_table s → marks_from i ≡ marks_from (i + 1)
    later l m = turn ∙ rw (le-ltb k (per_table s) l, le-ltb (per_table s) k m)

-- the same for the code: x is a cluster's length, r is L1 entry i, and k is its figure
module _ (g : Geometry) (s scratch : List ℕ) (o : Active g s) (i : ℕ) where
  rows_are : g.l1size ≡ root_size s 0
  rows_are = rw o.1 at o.0.is_l1size

  pub marks-none : g.l1size ≤ i → marks_from s (twos scratch 0 g.clusters) i ≡ Sound
  unfolding marks_from l1_verdict passed_all
  marks-none h = rw (entries_none (root_size s 0) i (drop (root_at s 0) s) (rw rows_are at h))

  module _ (x r k : ℕ) (hx : x ≡ 2 ^ g.bits) (h : i < g.l1size) (hr : r ≡ row_at s g.root i) (e : k ≡ row_fore s (twos scratch 0 g.clusters) r) where
    abbrev F : List ℕ
    F = twos scratch 0 g.clusters

    inside : i < root_size s 0
    inside = rw rows_are at h

    figure : k ≡ row_fore s F (row_at s 0 i)
    figure = rw (hr, o.1) at e

    per : x / 8 ≡ per_table s
    per = per-is g s scratch o.0 x hx

    pub marks-below : k < x / 8 → marks_from s F i ≡ MarkL2 i k
    marks-below l = below s F i k inside figure (rw per at l)

    pub marks-own : x / 8 < k → marks_from s F i ≡ MarkL1 i
    marks-own l = own s F i k inside figure (rw per at l)

    pub marks_later : x / 8 ≤ k → k ≤ x / 8 → marks_from s F (i + 1) ≡ marks_from s F i
    marks_later l m = sym (later s F i k inside figure (rw per at l) (rw per at m))
