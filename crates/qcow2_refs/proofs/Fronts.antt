-- Laws of the number of entries that pass at the front of a table.
-- Assumes nothing.
use Rattle.std.specs.Prelude.{if◌then◌else◌}
use Prim.Native.Nat.{ℕ, zero, suc, ◌+◌, ◌*◌, ◌≤◌, ◌<◌}
use mathlib.Core.Path.{◌≡◌, refl, ap}
use mathlib.Core.Bool.{Bool, true, false, not, ◌&&◌, ◌||◌, true≢false}
use mathlib.Core.List.{List, [], ◌∷◌}
use native.Mathlib.Omega.{arith}
use borrow.Author.Tests.{eq-eqb, ne_eqb, eqb-true, eqb-false}
use lib.Dec.{eqb}
use lib.ListN.{length, drop}
use Rattle.choice.specs.Pick.{all}
use Rattle.endian.specs.Big.{be64, entries, part}
use Rattle.qcow2_spec.specs.Header.{version, cluster_size, per_table}
use Rattle.qcow2_spec.specs.Entries.{place}
use Rattle.qcow2_spec.specs.References.{l2_entries}
use Rattle.qcow2_groups.specs.Walks.{passes, fore}
use Rattle.qcow2_refs.specs.Walks.{passes_l1, table_front, row_front, entry_passes}
use Rattle.endian.proofs.Entries.{be64-drop, length-entries}

-- all pass exactly where the front is the whole
fore-all : (p : ℕ → Bool) (es : List ℕ) → eqb (fore p es) (length es) ≡ all p es
unfolding fore
fore-all p [] = refl
fore-all p (e ∷ es) = go (p e) (fore-all p es)
  where
    more : (t : Bool) → eqb (fore p es) (length es) ≡ t → eqb (suc (fore p es)) (suc (length es)) ≡ t
    more true q = eq-eqb (suc (fore p es)) (suc (length es)) (ap suc (eqb-true _ _ q))
    more false q = let c = eqb-false (fore p es) (length es) q in ne_eqb (suc (fore p es)) (suc (length es)) (λ z. c (omega arith))

    go : (t : Bool) → eqb (fore p es) (length es) ≡ all p es → eqb (if t then suc (fore p es) else 0) (suc (length es)) ≡ (t && all p es)
    go true r = more (all p es) r
    go false r = ne_eqb 0 (suc (length es)) (λ z. omega arith)

-- an entry of the front passes
fore-at : (p : ℕ → Bool) (k : ℕ) (t : List ℕ) (i : ℕ) → i < fore p (entries k t) → p (be64 t (8 * i)) ≡ true
unfolding fore entries
fore-at p zero t i h = absurd (omega arith)
fore-at p (suc k) t i h = go i (p (be64 t 0)) refl h (λ j. fore-at p k (drop 8 t) j)
  where
    go : (i : ℕ) (u : Bool) → p (be64 t 0) ≡ u → i < (if u then suc (fore p (entries k (drop 8 t))) else 0)
        → ((j : ℕ) → j < fore p (entries k (drop 8 t)) → p (be64 (drop 8 t) (8 * j)) ≡ true) → p (be64 t (8 * i)) ≡ true
    go i false e l r = absurd (omega arith)
    go zero true e l r = e
    go (suc i) true e l r =
        let q : 8 * suc i ≡ 8 + 8 * i = omega arith in
        rw (ap (λ (n : ℕ). be64 t n) q) (rw (be64-drop t 8 (8 * i)) at (r i (omega arith)))

-- an L1 entry passes with all below it exactly where the front is a whole table
pub row-good : (kind : ℕ) (s : List ℕ) (e : ℕ) → 1 ≤ per_table s → eqb (row_front kind s e) (per_table s) ≡ entry_passes kind s e
unfolding row_front table_front entry_passes l2_entries
row-good kind s e h = go (passes_l1 kind (cluster_size s) (length s) e) (eqb (place e) 0)
  where
    L : ℕ → Bool
    L = passes kind (version s) (cluster_size s) (length s)

    es : List ℕ
    es = l2_entries s (place e)

    go : (g z : Bool) → eqb (if not g then 0 else if z then per_table s else fore L es) (per_table s) ≡ (g && (z || all L es))
    go false z = ne_eqb 0 (per_table s) (λ y. omega arith)
    go true true = eq-eqb (per_table s) (per_table s) refl
    go true false = rw (length-entries (per_table s) (part s (place e) (cluster_size s))) at (fore-all L es)

-- and else the front is of the table below it
pub row-clear : (kind : ℕ) (s : List ℕ) (e : ℕ) → entry_passes kind s e ≡ false → (i : ℕ) → i < row_front kind s e
    → passes kind (version s) (cluster_size s) (length s) (be64 (part s (place e) (cluster_size s)) (8 * i)) ≡ true
unfolding row_front table_front entry_passes l2_entries
row-clear kind s e h i l = go (passes_l1 kind (cluster_size s) (length s) e) (eqb (place e) 0) h l
  where
    L : ℕ → Bool
    L = passes kind (version s) (cluster_size s) (length s)

    t : List ℕ
    t = part s (place e) (cluster_size s)

    go : (g z : Bool) → (g && (z || all L (entries (per_table s) t))) ≡ false → i < (if not g then 0 else if z then per_table s else fore L (entries (per_table s) t)) → L (be64 t (8 * i)) ≡ true
    go false z k m = absurd (omega arith)
    go true true k m = absurd (true≢false k)
    go true false k m = fore-at L (per_table s) t i m
