-- The rows of the counts that a repair sets, cluster by cluster. Assumes nothing.
use Prim.Native.Nat.{ℕ, suc, ◌+◌, ◌/◌, ◌≤◌, ◌<◌}
use native.Mathlib.Numerals.{add-one}
use native.Mathlib.Omega.{arith}
use mathlib.Core.Path.{◌≡◌, refl, ◌∙◌}
use mathlib.Core.List.{List, [], ◌∷◌, ◌++◌}
use lib.ListN.{length, get_or}
use borrow.Author.Tests.{eq-eqb, ne_eqb}
use Rattle.widths.specs.Width.{span}
use Rattle.qcow2_spec.specs.Header.{width}
use Rattle.qcow2_spec.specs.Counts.{count_at, count_of, set_count}
use Rattle.qcow2_spec.specs.Check.{repair_units}
use Rattle.qcow2_spec.specs.Steps.{join, extents, rows_of}
use Rattle.qcow2_rows.specs.Rows.{Puts}
use Rattle.qcow2_rows.proofs.Laws.{puts_none, puts_then, puts_same}

module _ (epoch : ℕ) (s fs : List ℕ) where
  -- those of the m clusters from i on
  abbrev pub rows_from : (i m : ℕ) → List ℕ
  rows_from i m = rows_of epoch (extents (repair_units s fs i m))

  -- the row of cluster i's count
  abbrev pub own_row : ℕ → List ℕ
  own_row i = count_at s i / 8 ∷ span (width s) ∷ 1 ∷ epoch ∷ []

  rows_right : (i m : ℕ) → count_of s i ≡ get_or fs i 0 → rows_from i (suc m) ≡ rows_from (suc i) m
  unfolding repair_units
  rows_right i m e = rw (eq-eqb (count_of s i) (get_or fs i 0) e)

  rows_wrong : (i m : ℕ) → (count_of s i ≡ get_or fs i 0 → ⊥) → rows_from i (suc m) ≡ own_row i ++ rows_from (suc i) m
  unfolding repair_units set_count extents join rows_of
  rows_wrong i m e = rw (ne_eqb (count_of s i) (get_or fs i 0) e)

  module _ (n : ℕ) (first : List ℕ) (k : ℕ) where
    -- i of n clusters are done: with the rows of the others all are put
    pub record Going (rows : List ℕ) (r i : ℕ) : Type 0 where
      pub inside : i ≤ n
      pub few : r ≤ k + i
      pub same : length rows ≡ length first
      pub rest : (m : ℕ) → i + m ≡ n → (t : List ℕ) (q : ℕ) → Puts (rows_from i m) rows r t q → Puts (rows_from 0 n) first k t q

    pub going_last : (rows : List ℕ) (r i : ℕ) → n ≤ i → Going rows r i → (r ≤ k + n) × Puts (rows_from 0 n) first k rows r
    unfolding repair_units extents rows_of
    going_last rows r i h g = (omega (arith, g.few, g.inside), g.rest 0 (omega (arith, g.inside)) rows r (puts_none rows r))

    -- the next cluster: its count is right, or has a row
    module _ (rows : List ℕ) (r i : ℕ) (h : i < n) (g : Going rows r i) where
      pub going_right : count_of s i ≡ get_or fs i 0 → Going rows r (i + 1)
      going_right e =
          record {
            inside = omega arith;
            few = omega (arith, g.few);
            same = g.same;
            rest = λ m z t q p. g.rest (suc m) (omega arith) t q (puts_same (rows_right i m e) (rw add-one at p));
          }

      pub going_wrong : (t : List ℕ) (q : ℕ) → (count_of s i ≡ get_or fs i 0 → ⊥) → length t ≡ length rows → q ≡ r + 1 → Puts (own_row i) rows r t q → Going t q (i + 1)
      going_wrong t q e l f w =
          record {
            inside = omega arith;
            few = omega (arith, g.few);
            same = l ∙ g.same;
            rest = λ m z u v p. g.rest (suc m) (omega arith) u v (puts_same (rows_wrong i m e) (puts_then w (rw add-one at p)));
          }

pub going_first : (epoch : ℕ) (s fs : List ℕ) (n : ℕ) (rows : List ℕ) (k : ℕ) → Going epoch s fs n rows k rows k 0
going_first epoch s fs n rows k =
    record {
      inside = omega arith;
      few = omega arith;
      same = refl;
      rest = λ m z t q p. let e : m ≡ n = omega arith in rw (← e) p;
    }
