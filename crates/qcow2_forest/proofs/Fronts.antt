-- What the spot says of the entries before it.
-- Assumes nothing.
use Prim.Native.Nat.{ℕ, zero, suc, ◌+◌, ◌*◌, ◌≤◌, ◌<◌}
use mathlib.Core.Path.{◌≡◌, refl, ap, ◌∙◌}
use mathlib.Core.Bool.{Bool, true, false, not, ◌&&◌, ◌||◌}
use mathlib.Core.List.{List, [], ◌∷◌}
use native.Mathlib.Omega.{arith}
use borrow.Author.Tests.{eq-eqb}
use lib.Dec.{eqb}
use lib.ListN.{length, drop}
use Rattle.choice.specs.Pick.{all}
use Rattle.choice.proofs.Tests.{and-true}
use Rattle.endian.specs.Big.{be64, entries}
use Rattle.endian.proofs.Entries.{be64-drop}
use Rattle.qcow2_spec.specs.Header.{version, cluster_size, snapshots, root_at, root_size}
use Rattle.qcow2_spec.specs.Entries.{place, common, good_l1, good_l2}
use Rattle.qcow2_spec.specs.References.{l1_entries, l2_entries}
use Rattle.qcow2_spec.specs.Check.{table_good, entry_good}
use Rattle.qcow2_spec.proofs.Marks.{own_l2, own_row}
use Rattle.qcow2_groups.specs.Walks.{passes}
use Rattle.qcow2_refs.specs.Walks.{passes_l1, entry_passes, row_at, below_at}
use Rattle.qcow2_trees.specs.Walks.{data_by, Front}
use Rattle.qcow2_forest.specs.Forest.{Ahead}

-- ---- what passes is good
pub passes-good : (kind v C n e : ℕ) → passes kind v C n e ≡ true → good_l2 v C n e ≡ true
unfolding passes
passes-good kind v C n e h = (and-true (good_l2 v C n e) _ h).0

all-good : (kind v C n : ℕ) (es : List ℕ) → all (passes kind v C n) es ≡ true → all (good_l2 v C n) es ≡ true
all-good kind v C n [] h = refl
all-good kind v C n (e ∷ es) h =
    let a = and-true (passes kind v C n e) (all (passes kind v C n) es) h in
    rw (passes-good kind v C n e a.0) (all-good kind v C n es a.1)

pub entry-good : (kind : ℕ) (s : List ℕ) (e : ℕ) → entry_passes kind s e ≡ true → entry_good s e ≡ true
unfolding entry_passes passes_l1 entry_good table_good
entry-good kind s e h =
    let G : Bool = good_l1 (cluster_size s) (length s) e in
    let a = and-true (passes_l1 kind (cluster_size s) (length s) e) _ h in
    let g = (and-true G _ a.0).0 in
    rw g (go (eqb (place e) 0) refl a.1)
  where
    go : (z : Bool) → eqb (place e) 0 ≡ z → (z || all (passes kind (version s) (cluster_size s) (length s)) (l2_entries s (place e))) ≡ true
        → (z || all (good_l2 (version s) (cluster_size s) (length s)) (l2_entries s (place e))) ≡ true
    go true q p = refl
    go false q p = all-good kind (version s) (cluster_size s) (length s) (l2_entries s (place e)) p

pub front-good : (states : Bool) (s : List ℕ) (n root row below : ℕ) → Front states s n root row below → Ahead s root row below
front-good states s n root row below f =
    record {
      whole = λ t l i m. entry-good (data_by states t) s (row_at s t i) (f.whole t l i m);
      rows = λ i m. entry-good (data_by states root) s (row_at s root i) (f.rows i m);
      clear = λ j m. passes-good (data_by states root) (version s) (cluster_size s) (length s) (below_at s root row j) (f.clear j m);
    }

-- ---- where references are counted alone, what passes has bit 63 beside its place
own-two : (s : List ℕ) (es : List ℕ) → all (passes 0 (version s) (cluster_size s) (length s)) es ≡ true → all (own_l2 s) es ≡ true
unfolding passes
own-two s [] h = refl
own-two s (e ∷ es) h =
    let a = and-true (passes 0 (version s) (cluster_size s) (length s) e) (all (passes 0 (version s) (cluster_size s) (length s)) es) h in
    rw a.0 (own-two s es a.1)

pub entry-own : (s : List ℕ) (e : ℕ) → entry_passes 0 s e ≡ true → own_row s e ≡ true
unfolding entry_passes passes_l1
entry-own s e h =
    let a = and-true (good_l1 (cluster_size s) (length s) e && not (common e)) (eqb (place e) 0 || all (passes 0 (version s) (cluster_size s) (length s)) (l2_entries s (place e))) h in
    rw a.0 (go (eqb (place e) 0) a.1)
  where
    go : (z : Bool) → (z || all (passes 0 (version s) (cluster_size s) (length s)) (l2_entries s (place e))) ≡ true → (z || all (own_l2 s) (l2_entries s (place e))) ≡ true
    go true p = refl
    go false p = own-two s (l2_entries s (place e)) p

entries-all : (p : ℕ → Bool) (k : ℕ) (t : List ℕ) → ((i : ℕ) → i < k → p (be64 t (8 * i)) ≡ true) → all p (entries k t) ≡ true
unfolding entries
entries-all p zero t h = refl
entries-all p (suc k) t h =
    rw (h 0 (omega arith)) (entries-all p k (drop 8 t) (λ i l. ap p (be64-drop t 8 (8 * i) ∙ ap (λ (x : ℕ). be64 t x) (next i)) ∙ h (suc i) (omega arith)))
  where
    next : (i : ℕ) → 8 + 8 * i ≡ 8 * suc i
    next i = omega arith

-- the active tables, once all pass
pub front-own : (s : List ℕ) (n root row below : ℕ) → Front false s n root row below → 1 ≤ root → all (own_row s) (l1_entries s 0) ≡ true
unfolding l1_entries row_at
front-own s n root row below f h =
    entries-all (own_row s) (root_size s 0) (drop (root_at s 0) s) (λ i l. ap (own_row s) (be64-drop s (root_at s 0) (8 * i)) ∙ entry-own s (be64 s (root_at s 0 + 8 * i)) (f.whole 0 (omega arith) i l))

-- the same of what `count_all` promises
pub front_single : (s : List ℕ) (n root row below : ℕ) → snapshots s ≡ 0 → Front (not (eqb (snapshots s) 0)) s n root row below → 1 ≤ root
    → all (own_row s) (l1_entries s 0) ≡ true
front_single s n root row below e f h = front-own s n root row below (rw (eq-eqb (snapshots s) 0 e) at f) h
