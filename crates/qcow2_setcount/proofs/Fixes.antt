-- Counts that a repair sets, and what they leave as it was. Assumes nothing.
use Prim.Native.Nat.{ℕ, zero, suc, ◌+◌, ◌-◌, ◌*◌, ◌/◌, ◌^◌, ◌≤◌, ◌<◌}
use native.Mathlib.Numerals.{add-one}
use native.Mathlib.Omega.{arith}
use mathlib.Core.Path.{◌≡◌, refl, ◌∙◌}
use mathlib.Core.Logic.{◌⊎◌, inl}
use mathlib.Core.List.{List}
use lib.Dec.{eqb}
use lib.ListN.{length, get_or, take, length-append}
use lib.Seq.{take-nil}
use borrow.Author.Tests.{eq-eqb, ne_eqb}
use Rattle.choice.proofs.Tests.{if_elim}
use Rattle.widths.specs.Width.{span, number, stored, Inside}
use Rattle.widths.proofs.Cells.{even_order, inside-bytes}
use Rattle.widths.proofs.Whole.{within}
use Rattle.units.specs.Units.{UnitStore, count, apply_all}
use Rattle.units.proofs.Laws.{one_none, count-some}
use Rattle.units.proofs.Steps.{two}
use Rattle.units.proofs.Elsewhere.{Off, none, more, Beside, lone, next, beside_append, unmoved}
use Rattle.qcow2_counts.specs.Blocks.{Row}
use Rattle.qcow2_setcount.specs.Fixed.{fix, fixes}
use Rattle.qcow2_counts.proofs.Sizes.{row-part, row_inside}

module _ (o : ℕ) where
  -- one count
  pub off_fix : (s : List ℕ) (at v x m : ℕ) → (at / 8 + span (2 ^ o) ≤ x) ⊎ (x + m ≤ at / 8) → Off (2 ^ o) x m (fix o s at v)
  unfolding fix
  off_fix s at v x m h = if_elim (Off (2 ^ o) x m) (eqb (number (2 ^ o) s at) v) _ _ (λ e. none) (λ e. more h none)

  pub beside-fix : (s : List ℕ) (at v q n : ℕ) → Inside o n at → (at + 2 ^ o ≤ q) ⊎ (q + 2 ^ o ≤ at) → Beside (2 ^ o) q n (fix o s at v)
  unfolding fix
  beside-fix s at v q n i h =
      if_elim (Beside (2 ^ o) q n) (eqb (number (2 ^ o) s at) v) _ _ (λ e. lone)
      (λ e. next (within o i.few at i.aligned) (inside-bytes o n at i) h lone)

  -- it is right; it is stored; or it is past the allowance a, of which n units are spent
  module _ (s : List ℕ) (at v n a : ℕ) where
    pub fix-right : number (2 ^ o) s at ≡ v → (n ≡ n + length (fix o s at v)) × (s ≡ apply_all (take (a - n) (fix o s at v)) s)
    unfolding fix apply_all
    fix-right e = rw (eq-eqb (number (2 ^ o) s at) v e, take-nil) (omega arith, refl)

    pub fix-stored : (t : List ℕ) → (number (2 ^ o) s at ≡ v → ⊥) → n < a → t ≡ stored (2 ^ o) s at v → (n + 1 ≡ n + length (fix o s at v)) × (t ≡ apply_all (take (a - n) (fix o s at v)) s)
    unfolding fix
    fix-stored t e l q = rw (ne_eqb (number (2 ^ o) s at) v e) (refl, q ∙ count-some s (2 ^ o) at v (a - n) (λ z. omega arith))

    pub fix-past : (number (2 ^ o) s at ≡ v → ⊥) → a ≤ n → (n + 1 ≡ n + length (fix o s at v)) × (s ≡ apply_all (take (a - n) (fix o s at v)) s)
    unfolding fix
    fix-past e l = rw (ne_eqb (number (2 ^ o) s at) v e) (refl, one_none (count (2 ^ o) at v) s (a - n) (omega arith))

  pub fix-most : (s : List ℕ) (at v : ℕ) → length (fix o s at v) ≤ 1
  unfolding fix
  fix-most s at v = if_elim (λ (us : List UnitStore). length us ≤ 1) (eqb (number (2 ^ o) s at) v) _ _ (λ e. omega arith) (λ e. omega arith)

  pub fix-same : (s t : List ℕ) (at v : ℕ) → number (2 ^ o) t at ≡ number (2 ^ o) s at → fix o t at v ≡ fix o s at v
  unfolding fix
  fix-same s t at v e = rw e

  -- a run of counts
  module _ (s : List ℕ) (at : ℕ) (fs : List ℕ) where
    pub fixes-most : (k : ℕ) → length (fixes o s at fs k) ≤ k
    unfolding fixes
    fixes-most zero = omega arith
    fixes-most (suc k) = rw length-append (omega (arith, fixes-most k, fix-most s (at + 2 ^ o * k) (get_or fs k 0)))

    pub beside-fixes : (k q n : ℕ) → Row o n at k → at + 2 ^ o * k ≤ q → Beside (2 ^ o) q n (fixes o s at fs k)
    unfolding fixes
    beside-fixes zero q n r h = lone
    beside-fixes (suc k) q n r h =
        beside_append (beside-fixes k q n (row-part r k (omega arith)) (omega arith)) (beside-fix s (at + 2 ^ o * k) (get_or fs k 0) q n (row_inside r k (omega arith)) (inl (omega arith)))

    pub fixes-same : (t : List ℕ) (k : ℕ) → ((d : ℕ) → d < k → number (2 ^ o) t (at + 2 ^ o * d) ≡ number (2 ^ o) s (at + 2 ^ o * d)) → fixes o t at fs k ≡ fixes o s at fs k
    unfolding fixes
    fixes-same t zero h = refl
    fixes-same t (suc k) h = rw (fixes-same t k (λ d l. h d (omega arith)), fix-same s t (at + 2 ^ o * k) (get_or fs k 0) (h k (omega arith)))

    module _ {m : ℕ} (row : Row o (length s) at m) where
      -- the next count, once units of those before it are stored
      pub fix_after : (j k : ℕ) (t : List ℕ) → j < m → t ≡ apply_all (take k (fixes o s at fs j)) s → fix o t (at + 2 ^ o * j) (get_or fs j 0) ≡ fix o s (at + 2 ^ o * j) (get_or fs j 0)
      fix_after j k t h w =
          let i = row_inside row j h in
          let b = beside-fixes j (at + 2 ^ o * j) (length s) (row-part row j (omega arith)) (omega arith) in
          fix-same s t (at + 2 ^ o * j) (get_or fs j 0)
          (rw w (unmoved (2 ^ o) (at + 2 ^ o * j) (fixes o s at fs j) s k (even_order o row.few) (within o row.few (at + 2 ^ o * j) i.aligned) (inside-bytes o (length s) (at + 2 ^ o * j) i) b))

    -- the first j counts are done: n units came before them
    pub record Run (n a j spent : ℕ) (t : List ℕ) : Type 0 where
      pub counted : spent ≡ n + length (fixes o s at fs j)
      pub image : t ≡ apply_all (take (a - n) (fixes o s at fs j)) s

    pub run-first : (n a : ℕ) → Run n a 0 n s
    unfolding fixes apply_all
    run-first n a = record { counted = omega arith; image = rw take-nil }

    pub run-next : {m : ℕ} → Row o (length s) at m → (n a j spent : ℕ) (t : List ℕ) (v r : ℕ) (u : List ℕ) → j < m → v ≡ get_or fs j 0 → Run n a j spent t
        → r ≡ spent + length (fix o t (at + 2 ^ o * j) v) → u ≡ apply_all (take (a - spent) (fix o t (at + 2 ^ o * j) v)) t → Run n a (j + 1) r u
    unfolding fixes
    run-next row n a j spent t v r u h e w f g =
        let x : fix o t (at + 2 ^ o * j) v ≡ fix o s (at + 2 ^ o * j) (get_or fs j 0) = rw e (fix_after row j (a - n) t h w.image) in
        let b : a - spent ≡ a - n - length (fixes o s at fs j) = rw w.counted (omega arith) in
        record {
          counted = rw (add-one, length-append, f, x, w.counted) (omega arith);
          image = rw add-one (two (fixes o s at fs j) (fix o s (at + 2 ^ o * j) (get_or fs j 0)) s t u (a - n) (a - spent) (length (fixes o s at fs j)) refl b w.image (rw x at g));
        }
