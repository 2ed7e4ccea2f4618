-- Rows read back: rows after others, and those of a call, which have the bytes of its extents. Assumes nothing.
use Rattle.std.specs.Prelude.{if◌then◌else◌}
use Prim.Native.Nat.{ℕ, zero, suc, ◌+◌, ◌-◌, ◌*◌, ◌/◌, ◌≤◌, ◌<◌}
use native.Mathlib.Nat.{zero-add}
use native.Mathlib.Omega.{arith}
use mathlib.Core.Path.{◌≡◌, refl, sym, ap, ◌∙◌}
use mathlib.Core.Bool.{Bool, true, false}
use mathlib.Core.List.{List, [], ◌∷◌, ◌++◌, append-nil, append_assoc}
use lib.Dec.{eqb}
use lib.ListN.{length, take, drop, length-append, length-drop, take-append-drop}
use lib.Seq.{length-take-le, take_all}
use borrow.Author.Tests.{le-leb}
use Rattle.endian.specs.Big.{splice}
use Rattle.units.specs.Units.{UnitStore}
use Rattle.qcow2_spec.specs.Steps.{Extent, whole, covers, extents, rows_of, step_rows, rows_put}
use Rattle.qcow2_batches.specs.Batch.{call_phase}
use Rattle.qcow2_batches.specs.Rows.{rows_in, new_rows, rows_after}
use Rattle.qcow2_batches.proofs.Covers.{Alike}

-- ---- rows after others
-- one row read
row_step : (p n a l m e : ℕ) (rest : List ℕ) → rows_in p (suc n) (a ∷ l ∷ m ∷ e ∷ rest) ≡ (if eqb e p then whole a l ∷ [] else []) ++ rows_in p n rest
unfolding rows_in
row_step p n a l m e rest = let h : 4 ≤ suc (suc (suc (suc (length rest)))) = omega arith in rw (le-leb 4 _ h)

pub none_in : (p : ℕ) (l : List ℕ) → rows_in p 0 l ≡ []
unfolding rows_in
none_in p l = refl

pub rows_in_append : (p k m : ℕ) (xs ys : List ℕ) → length xs ≡ 4 * k → rows_in p (k + m) (xs ++ ys) ≡ rows_in p k xs ++ rows_in p m ys
rows_in_append p zero m [] ys h = rw (zero-add m, none_in p [])
rows_in_append p zero m (a ∷ xs) ys h = absurd (omega arith)
rows_in_append p (suc k) m [] ys h = absurd (omega arith)
rows_in_append p (suc k) m (a ∷ []) ys h = absurd (omega arith)
rows_in_append p (suc k) m (a ∷ b ∷ []) ys h = absurd (omega arith)
rows_in_append p (suc k) m (a ∷ b ∷ c ∷ []) ys h = absurd (omega arith)
rows_in_append p (suc k) m (a ∷ b ∷ c ∷ d ∷ xs) ys h =
    let e : suc k + m ≡ suc (k + m) = omega arith in
    rw (e, row_step p (k + m) a b c d (xs ++ ys), row_step p k a b c d xs, rows_in_append p k m xs ys (omega arith))
    (sym (append_assoc (if eqb d p then whole a b ∷ [] else []) (rows_in p k xs) (rows_in p m ys)))

-- the first k rows are all that is read of them
pub rows_in-take : (p k : ℕ) (rows : List ℕ) → 4 * k ≤ length rows → rows_in p k (take (4 * k) rows) ≡ rows_in p k rows
rows_in-take p k rows h =
    let e : k + 0 ≡ k = omega arith in
    sym (append-nil _) ∙ ap (λ (l : List Extent). rows_in p k (take (4 * k) rows) ++ l) (sym (none_in p (drop (4 * k) rows)))
    ∙ sym (rows_in_append p k 0 (take (4 * k) rows) (drop (4 * k) rows) (length-take-le (4 * k) rows h)) ∙ rw (e, take-append-drop (4 * k) rows)

-- new rows that fit are put after the held ones
module _ (k j : ℕ) (rows new : List ℕ) (many : length new ≡ 4 * j) (fits : 4 * (k + j) ≤ length rows) where
  pub after-fits : rows_after k rows new ≡ take (4 * k) rows ++ (new ++ drop (length new) (drop (4 * k) rows))
  unfolding rows_after rows_put splice
  after-fits =
      let l : length (drop (4 * k) rows) ≡ length rows - 4 * k = length-drop (4 * k) rows in
      rw (take_all (4 * (length (drop (4 * k) rows) / 4)) new (omega arith), zero-add (length new))

  pub rows_in-after : (p : ℕ) → rows_in p (k + j) (rows_after k rows new) ≡ rows_in p k rows ++ rows_in p j new
  rows_in-after p =
      let e : j + 0 ≡ j = omega arith in
      let h : 4 * k ≤ length rows = omega arith in
      ap (rows_in p (k + j)) after-fits ∙ rows_in_append p k j (take (4 * k) rows) _ (length-take-le (4 * k) rows h)
      ∙ rw (rows_in-take p k rows h) (ap (λ (l : List Extent). rows_in p k rows ++ l)
      (ap (λ (m : ℕ). rows_in p m (new ++ drop (length new) (drop (4 * k) rows))) (sym e) ∙ rows_in_append p j 0 new _ many ∙ rw (none_in p (drop (length new) (drop (4 * k) rows))) (append-nil _)))

  pub after-room : 4 * (k + j) ≤ length (rows_after k rows new)
  after-room =
      let h : length (take (4 * k) rows) ≡ 4 * k = length-take-le (4 * k) rows (omega arith) in
      rw (after-fits, length-append, length-append) (omega arith)

-- ---- a call's rows
-- where the bytes are, and no more
abbrev pub plain : List Extent → List Extent
plain [] = []
plain (x ∷ xs) = whole x.at x.len ∷ plain xs

pub covers-plain : (xs : List Extent) → Alike (plain xs) xs
unfolding covers
covers-plain [] x = refl
covers-plain (y ∷ ys) x = rw (covers-plain ys x)

pub length_rows_of : (e : ℕ) (xs : List Extent) → length (rows_of e xs) ≡ 4 * length xs
unfolding rows_of
length_rows_of e [] = refl
length_rows_of e (x ∷ xs) = let r = length_rows_of e xs in omega arith

abbrev of_phase : (p e : ℕ) → List Extent → List Extent
of_phase p e xs = if eqb e p then plain xs else []

rows_in_of : (p e : ℕ) (xs : List Extent) → rows_in p (length xs) (rows_of e xs) ≡ of_phase p e xs
unfolding rows_of
rows_in_of p e [] = none_in p [] ∙ go (eqb e p)
  where
    go : (b : Bool) → ◌≡◌ {A = List Extent} [] (if b then [] else [])
    go true = refl
    go false = refl
rows_in_of p e (x ∷ xs) = rw (row_step p (length xs) x.at x.len x.made e (rows_of e xs), rows_in_of p e xs) (go (eqb e p))
  where
    go : (b : Bool) → (if b then whole x.at x.len ∷ [] else []) ++ (if b then plain xs else []) ≡ (if b then whole x.at x.len ∷ plain xs else [])
    go true = refl
    go false = refl

-- of the epochs from e on, as many as there are rows
abbrev total : List (List UnitStore) → ℕ
total [] = 0
total (us ∷ es) = length (extents us) + total es

length-steps : (e : ℕ) (es : List (List UnitStore)) → length (step_rows e es) ≡ 4 * total es
unfolding step_rows
length-steps e [] = omega arith
length-steps e (us ∷ es) = rw (length-append, length_rows_of, length-steps (suc e) es) (omega arith)

abbrev in_steps : (p e : ℕ) → List (List UnitStore) → List Extent
in_steps p e [] = []
in_steps p e (us ∷ es) = of_phase p e (extents us) ++ in_steps p (suc e) es

rows_in-steps : (p e : ℕ) (es : List (List UnitStore)) → rows_in p (total es) (step_rows e es) ≡ in_steps p e es
unfolding step_rows
rows_in-steps p e [] = none_in p []
rows_in-steps p e (us ∷ es) =
    rows_in_append p (length (extents us)) (total es) (rows_of e (extents us)) (step_rows (suc e) es) (length_rows_of e (extents us)) ∙ rw (rows_in_of p e (extents us), rows_in-steps p (suc e) es)

module _ (s : List ℕ) (ready : List Extent) (us : List UnitStore) where
  abbrev four : List (List UnitStore)
  four = call_phase 0 s ready us ∷ call_phase 1 s ready us ∷ call_phase 2 s ready us ∷ call_phase 3 s ready us ∷ []

  pub length_new : length (new_rows s ready us) ≡ 4 * (length (new_rows s ready us) / 4)
  unfolding new_rows
  length_new = let e = length-steps 0 four in omega arith

  pub new_in : (p : ℕ) → p < 4 → rows_in p (length (new_rows s ready us) / 4) (new_rows s ready us) ≡ plain (extents (call_phase p s ready us))
  unfolding new_rows
  new_in p h =
      let e : length (step_rows 0 four) / 4 ≡ total four = omega (arith, length-steps 0 four) in
      rw e (rows_in-steps p 0 four ∙ go p h)
    where
      go : (p : ℕ) → p < 4 → in_steps p 0 four ≡ plain (extents (call_phase p s ready us))
      go zero h = append-nil _
      go (suc zero) h = append-nil _
      go (suc (suc zero)) h = append-nil _
      go (suc (suc (suc zero))) h = append-nil _
      go (suc (suc (suc (suc p)))) h = absurd (omega arith)
