-- The loops over rows, one row a turn. Assumes nothing.
use Rattle.std.specs.Prelude.{if◌then◌else◌}
use Prim.Native.Nat.{ℕ, suc, ◌+◌, ◌-◌, ◌*◌, ◌≤◌, ◌<◌}
use native.Mathlib.Nat.{add-zero}
use native.Mathlib.Omega.{arith}
use mathlib.Core.Path.{◌≡◌, refl, sym, ap, ◌∙◌}
use mathlib.Core.Bool.{Bool, true, false, ◌&&◌, ◌||◌}
use mathlib.Core.List.{List, [], ◌∷◌, ◌++◌}
use lib.Dec.{eqb}
use lib.ListN.{length, get_or, drop, length-drop}
use lib.Seq.{get_or-drop, drop-drop}
use borrow.Author.Tests.{le-leb, eq-eqb, ne_eqb}
use Rattle.qcow2_spec.specs.Steps.{Extent, whole}
use Rattle.qcow2_batches.specs.Batch.{meets, clash}
use Rattle.qcow2_batches.specs.Rows.{rows_in}
use Rattle.qcow2_phases.proofs.Meets.{meets_append}

-- the row's own extent, where it is of that phase
abbrev one : Bool → Extent → List Extent
one b y = if b then y ∷ [] else []

meets-one : (b : Bool) (y : Extent) (ys : List Extent) (at len : ℕ) → meets (one b y ++ ys) at len ≡ ((b && meets (y ∷ []) at len) || meets ys at len)
meets-one true y ys at len = meets_append (y ∷ []) ys at len
meets-one false y ys at len = refl

clash-one : (ys : List Extent) (b : Bool) (z : Extent) (zs : List Extent) → clash ys (one b z ++ zs) ≡ ((b && meets ys z.at z.len) || clash ys zs)
unfolding clash
clash-one ys true z zs = refl
clash-one ys false z zs = refl

pub clash_nil : (ys : List Extent) → clash ys [] ≡ false
unfolding clash
clash_nil ys = refl

-- ---- a test before another
or_hit : (m b x y : Bool) → m ≡ (x || y) → b ≡ x → b ≡ true → true ≡ m
or_hit m b x y e f g = sym (e ∙ ap (λ (z : Bool). z || y) (sym f ∙ g))

or_miss : (m b x y : Bool) → m ≡ (x || y) → b ≡ x → b ≡ false → m ≡ y
or_miss m b x y e f g = e ∙ ap (λ (z : Bool). z || y) (sym f ∙ g)

-- a row of another phase, and one of that phase
pub other_phase : (q p : ℕ) (m : Bool) → (q ≡ p → ⊥) → false ≡ (eqb q p && m)
other_phase q p m f = rw (ne_eqb q p f)

pub own_phase : (q p : ℕ) (r m : Bool) → q ≡ p → r ≡ m → r ≡ (eqb q p && m)
own_phase q p r m e f = rw (eq-eqb q p e) f

module _ (p : ℕ) (rows : List ℕ) where
  -- the rows of that phase from row i on, of n
  abbrev pub rows_from : (n i : ℕ) → List Extent
  rows_from n i = rows_in p (n - i) (drop (4 * i) rows)

  abbrev row_at : (i : ℕ) → Extent
  row_at i = whole (get_or rows (4 * i) 0) (get_or rows (4 * i + 1) 0)

  abbrev is_of : (i : ℕ) → Bool
  is_of i = eqb (get_or rows (4 * i + 3) 0) p

  from_turn : (n i : ℕ) → i < n → 4 * n ≤ length rows → rows_from n i ≡ one (is_of i) (row_at i) ++ rows_from n (i + 1)
  unfolding rows_in
  from_turn n i h k =
      let e : n - i ≡ suc (n - (i + 1)) = omega arith in
      let f : 4 * i + 4 ≡ 4 * (i + 1) = omega arith in
      let l : 4 ≤ length (drop (4 * i) rows) = rw length-drop (omega arith) in
      rw (e, le-leb 4 _ l, get_or-drop (4 * i) rows 3 0, get_or-drop (4 * i) rows 0 0, get_or-drop (4 * i) rows 1 0, drop-drop 4 (4 * i) rows, f, add-zero (4 * i))

  pub from_none : (n i : ℕ) → n ≤ i → rows_from n i ≡ []
  unfolding rows_in
  from_none n i h = let e : n - i ≡ 0 = omega arith in rw e

  pub from_all : (n : ℕ) → rows_from n 0 ≡ rows_in p n rows
  from_all n = let e : n - 0 ≡ n = omega arith in rw e

  module _ (n i : ℕ) (h : i < n) (k : 4 * n ≤ length rows) where
    -- ---- a search for a row that meets bytes
    module _ (at len : ℕ) (m b : Bool) (e : m ≡ meets (rows_from n i) at len) (f : b ≡ (is_of i && meets (row_at i ∷ []) at len)) where
      scan_turn : m ≡ ((is_of i && meets (row_at i ∷ []) at len) || meets (rows_from n (i + 1)) at len)
      scan_turn = e ∙ ap (λ (ys : List Extent). meets ys at len) (from_turn n i h k) ∙ meets-one (is_of i) (row_at i) _ at len

      pub scan_hit : b ≡ true → true ≡ m
      scan_hit = or_hit m b _ _ scan_turn f

      pub scan_miss : b ≡ false → m ≡ meets (rows_from n (i + 1)) at len
      scan_miss = or_miss m b _ _ scan_turn f

    -- ---- and for one that meets extents
    module _ (ys : List Extent) (m b : Bool) (e : m ≡ clash ys (rows_from n i)) (f : b ≡ (is_of i && meets ys (get_or rows (4 * i) 0) (get_or rows (4 * i + 1) 0))) where
      clash_turn : m ≡ ((is_of i && meets ys (get_or rows (4 * i) 0) (get_or rows (4 * i + 1) 0)) || clash ys (rows_from n (i + 1)))
      clash_turn = e ∙ ap (clash ys) (from_turn n i h k) ∙ clash-one ys (is_of i) (row_at i) _

      pub clash_hit : b ≡ true → true ≡ m
      clash_hit = or_hit m b _ _ clash_turn f

      pub clash_miss : b ≡ false → m ≡ clash ys (rows_from n (i + 1))
      clash_miss = or_miss m b _ _ clash_turn f
