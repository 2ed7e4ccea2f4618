-- Laws of verdicts: the verdict by how an L1 entry fares.
-- Assumes nothing.
use Rattle.std.specs.Prelude.{if◌then◌else◌}
use Prim.Native.Nat.{ℕ, suc, ◌+◌, ◌-◌, ◌*◌, ◌≤◌, ◌<◌}
use mathlib.Core.Path.{◌≡◌, refl, sym, ap, ◌∙◌}
use mathlib.Core.Bool.{Bool, true, false, not}
use mathlib.Core.List.{List, [], ◌∷◌}
use native.Mathlib.Nat.{add-zero, zero-add}
use native.Mathlib.Omega.{arith}
use borrow.Author.Tests.{eq-eqb, ne_eqb, lt-ltb, le-ltb}
use lib.Dec.{eqb}
use lib.ListN.{length, drop}
use Rattle.endian.specs.Big.{be64, entries, part}
use Rattle.endian.proofs.Entries.{length-entries, entries_turn, entries_none}
use Rattle.qcow2_spec.specs.Header.{version, cluster_size, per_table}
use Rattle.qcow2_spec.specs.Entries.{place}
use Rattle.qcow2_spec.specs.References.{l2_entries}
use Rattle.qcow2_spec.specs.Check.{or_else, l2_verdict, entry_verdict, l1_verdict}
use Rattle.qcow2_spec.specs.declared.Verdict.{Verdict}
use Rattle.qcow2_spec.specs.declared.Verdict.TheVariants.{Sound, Leaks, BadL1, BadL2, Shared, Short, MarkL1, MarkL2, Refused}
use Rattle.qcow2_spec.proofs.Else.{else_else, else_sound, Damage, entry_else}
use Rattle.qcow2_groups.specs.Walks.{fore}
use Rattle.qcow2_sweep.specs.Sweeps.{passes_by}
use Rattle.qcow2_swept.specs.Rows.{passes_l1_by, seek_by, row_fore, named_by}

-- a verdict that is not sound comes first
pub else_first : (v next : Verdict) → (v ≡ Sound → ⊥) → v ≡ or_else v next
else_first Sound next h = absurd (h refl)
else_first (Leaks m) next h = refl
else_first (BadL1 t i) next h = refl
else_first (BadL2 t i j) next h = refl
else_first (Shared k) next h = refl
else_first (Short k) next h = refl
else_first (MarkL1 i) next h = refl
else_first (MarkL2 i j) next h = refl
else_first (Refused k) next h = refl

-- ---- by how many pass at the front
module _ (t i fore per : ℕ) where
  pub named-sound : fore ≡ per → named_by t i fore per ≡ Sound
  unfolding named_by
  named-sound h = rw (eq-eqb fore per h)

  pub named-below : fore < per → named_by t i fore per ≡ BadL2 t i fore
  unfolding named_by
  named-below h = rw (ne_eqb fore per (λ e. omega arith), lt-ltb fore per h)

  pub named-row : per < fore → named_by t i fore per ≡ BadL1 t i
  unfolding named_by
  named-row h = rw (ne_eqb fore per (λ e. omega arith), le-ltb fore per (omega arith))

module _ (kind : ℕ) (s : List ℕ) (t : ℕ) where
  pub seek_damage : Damage (seek_by kind s t)
  unfolding seek_by
  seek_damage = record { first = λ i next. refl; second = λ i j next. refl }

  -- j entries are behind
  l2_named : (i j : ℕ) (es : List ℕ) → l2_verdict (seek_by kind s t) i j es Sound ≡ named_by t i (j + fore (passes_by kind (version s) (cluster_size s) (length s)) es) (j + length es)
  unfolding l2_verdict seek_by fore
  l2_named i j [] = sym (named-sound t i (j + 0) (j + 0) refl)
  l2_named i j (e ∷ es) = go (passes_by kind (version s) (cluster_size s) (length s) e) (l2_named i (suc j) es)
    where
      F : ℕ
      F = fore (passes_by kind (version s) (cluster_size s) (length s)) es

      go : (g : Bool) → l2_verdict (seek_by kind s t) i (suc j) es Sound ≡ named_by t i (suc j + F) (suc j + length es)
          → (if g then l2_verdict (seek_by kind s t) i (suc j) es Sound else BadL2 t i j) ≡ named_by t i (j + (if g then suc F else 0)) (j + suc (length es))
      go true h =
          let a : j + suc F ≡ suc j + F = omega arith in
          let b : j + suc (length es) ≡ suc j + length es = omega arith in
          rw (a, b) h
      go false h = rw add-zero (sym (named-below t i j (j + suc (length es)) (omega arith)))

  -- the verdict by an L1 entry is told by how it fares
  pub row_named : (i e : ℕ) → entry_verdict s (seek_by kind s t) i e Sound ≡ named_by t i (row_fore kind s e) (per_table s)
  unfolding entry_verdict seek_by row_fore l2_entries
  row_named i e = go (passes_l1_by kind (cluster_size s) (length s) e) (eqb (place e) 0)
    where
      es : List ℕ
      es = l2_entries s (place e)

      F : ℕ
      F = fore (passes_by kind (version s) (cluster_size s) (length s)) es

      below : l2_verdict (seek_by kind s t) i 0 es Sound ≡ named_by t i F (per_table s)
      below = rw (zero-add, zero-add, length-entries (per_table s) (part s (place e) (cluster_size s))) at (l2_named i 0 es)

      go : (g z : Bool) → (if not g then BadL1 t i else if z then Sound else l2_verdict (seek_by kind s t) i 0 es Sound) ≡ named_by t i (if not g then suc (per_table s) else if z then per_table s else F) (per_table s)
      go false z = sym (named-row t i (suc (per_table s)) (per_table s) (omega arith))
      go true true = sym (named-sound t i (per_table s) (per_table s) refl)
      go true false = below

  -- the entries of a table from j of k on: entry j first; nothing at the end
  pub rows_turn : (k j : ℕ) (l : List ℕ) (found : Verdict) → j < k
      → or_else found (l1_verdict s (seek_by kind s t) j (entries (k - j) (drop (8 * j) l)) Sound)
      ≡ or_else (or_else found (entry_verdict s (seek_by kind s t) j (be64 l (8 * j)) Sound)) (l1_verdict s (seek_by kind s t) (j + 1) (entries (k - (j + 1)) (drop (8 * (j + 1)) l)) Sound)
  unfolding l1_verdict
  rows_turn k j l found h =
      let n : suc j ≡ j + 1 = omega arith in
      let r : Verdict = l1_verdict s (seek_by kind s t) (j + 1) (entries (k - (j + 1)) (drop (8 * (j + 1)) l)) Sound in
      rw (entries_turn k j l h, n) (ap (or_else found) (entry_else s (seek_by kind s t) seek_damage j (be64 l (8 * j)) r) ∙ else_else found (entry_verdict s (seek_by kind s t) j (be64 l (8 * j)) Sound) r)

  pub rows_end : (k j : ℕ) (l : List ℕ) (found : Verdict) → k ≤ j → or_else found (l1_verdict s (seek_by kind s t) j (entries (k - j) (drop (8 * j) l)) Sound) ≡ found
  unfolding l1_verdict
  rows_end k j l found h = rw (entries_none k j l h) (else_sound found)
