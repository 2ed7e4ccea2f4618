-- New blocks one after another. Assumes nothing.
use Rattle.std.specs.Prelude.{if◌then◌else◌}
use Prim.Native.Nat.{ℕ, zero, suc, ◌+◌, ◌-◌, ◌*◌, ◌≤◌, ◌<◌}
use native.Mathlib.Nat.{le_refl, zero-add, add-zero, suc-add, add-suc}
use native.Mathlib.Omega.{arith}
use mathlib.Core.Path.{◌≡◌, refl, sym, ◌∙◌}
use mathlib.Core.Bool.{Bool, true, false}
use mathlib.Core.List.{List, [], ◌∷◌, ◌++◌, append_assoc}
use lib.ListN.{length, get_or, take, length-append}
use lib.Seq.{take-nil}
use borrow.Author.Tests.{eq-eqb, ne_eqb}
use Rattle.choice.specs.Pick.{first, count}
use Rattle.units.specs.Units.{UnitStore, entry, fill, cluster, apply_all}
use Rattle.units.proofs.Laws.{apply_then}
use Rattle.units.proofs.Steps.{two, length-filled, length_more}
use Rattle.qcow2_extend.specs.declared.making.Layout.{Layout}
use Rattle.qcow2_extend.specs.Making.{new_units, marked_units, made_where, marked}

none : (a : ℕ) (s : List ℕ) → apply_all (take a []) s ≡ s
unfolding apply_all
none a s = rw take-nil

module _ (p : Layout) where
  -- ---- one block, not marked or marked, with an allowance of a units
  pub block_unmarked : (i m a : ℕ) (s : List ℕ) → (m ≡ 1 → ⊥) → (a ≡ a - length (marked_units p i m)) × (s ≡ apply_all (take a (marked_units p i m)) s)
  unfolding marked_units
  block_unmarked i m a s h = rw (ne_eqb m 1 h) (omega arith, sym (none a s))

  pub block_marked : (i m a b c : ℕ) (s t u : List ℕ) → p.own < p.size → m ≡ 1
      → b ≡ a - p.size → t ≡ apply_all (take a (fill (i * p.span) (cluster p.size p.own (1 ∷ [])))) s
      → c ≡ b - 1 → u ≡ apply_all (take b (entry (p.table + 8 * i) (i * p.span) ∷ [])) t
      → (c ≡ a - length (marked_units p i m)) × (u ≡ apply_all (take a (marked_units p i m)) s)
  unfolding marked_units new_units
  block_marked i m a b c s t u h g eb et ec eu =
      let U : List UnitStore = fill (i * p.span) (cluster p.size p.own (1 ∷ [])) in
      let l : length U ≡ p.size = length-filled (i * p.span) p.size p.own (1 ∷ []) (omega arith) in
      rw (eq-eqb m 1 g) (rw (length_more U (entry (p.table + 8 * i) (i * p.span)) p.size (p.size + 1) l refl) (omega arith), two U _ s t u a b p.size l eb et eu)

  -- ---- how many units there are
  length_new : p.own < p.size → (i : ℕ) → length (new_units p i) ≡ p.size + 1
  unfolding new_units
  length_new h i =
      let at = i * p.span in
      length_more (fill at (cluster p.size p.own (1 ∷ []))) (entry (p.table + 8 * i) at) p.size (p.size + 1) (length-filled at p.size p.own (1 ∷ []) (omega arith)) refl

  pub length-made : p.own < p.size → (t : ℕ → Bool) (i k : ℕ) → length (made_where p t i k) ≡ count t i k * (p.size + 1)
  unfolding made_where
  length-made h t i zero = omega arith
  length-made h t i (suc k) = rw length-append (go (t i) (length-made h t (suc i) k))
    where
      go : (b : Bool) → length (made_where p t (suc i) k) ≡ count t (suc i) k * (p.size + 1)
          → length (if b then new_units p i else []) + length (made_where p t (suc i) k) ≡ ((if b then 1 else 0) + count t (suc i) k) * (p.size + 1)
      go true e = omega (arith, length_new h i)
      go false e = omega arith

  -- ---- one after another
  made_turn : (t : ℕ → Bool) (i n : ℕ) → i < n → made_where p t i (n - i) ≡ (if t i then new_units p i else []) ++ made_where p t (i + 1) (n - (i + 1))
  unfolding made_where
  made_turn t i n h =
      let e : n - i ≡ suc (n - (i + 1)) = omega arith in
      let f : suc i ≡ i + 1 = omega arith in
      rw (e, f)

  -- the marked ones from i on: once block i is made, within what is left of the allowance a; and at the end
  module _ (start : ℕ) (ms : List ℕ) (i n a : ℕ) (s : List ℕ) {r : List ℕ} (left : apply_all (take a (made_where p (marked start ms) i (n - i))) s ≡ r) where
    pub made-next : (b : ℕ) (t : List ℕ) → i < n → b ≡ a - length (marked_units p i (get_or ms (i - start) 0)) → t ≡ apply_all (take a (marked_units p i (get_or ms (i - start) 0))) s
        → apply_all (take b (made_where p (marked start ms) (i + 1) (n - (i + 1)))) t ≡ r
    unfolding marked_units
    made-next b t h e f = rw (e, f) (apply_then (marked_units p i (get_or ms (i - start) 0)) _ s a ∙ rw (made_turn (marked start ms) i n h) at left)

    pub made_done : n ≤ i → s ≡ r
    unfolding made_where apply_all
    made_done h =
        let e : n - i ≡ 0 = omega arith in
        sym (none a s) ∙ rw e at left

  pub made-same : (t u : ℕ → Bool) (i k : ℕ) → ((j : ℕ) → i ≤ j → j < i + k → t j ≡ u j) → made_where p t i k ≡ made_where p u i k
  unfolding made_where
  made-same t u i zero h = refl
  made-same t u i (suc k) h =
      rw (h i (le_refl i) (omega arith), made-same t u (suc i) k (λ j l m. h j (omega arith) (omega arith)))

  -- ---- in two parts, and from the first that passes on
  pub made_split : (t : ℕ → Bool) (i m k : ℕ) → made_where p t i (m + k) ≡ made_where p t i m ++ made_where p t (i + m) k
  unfolding made_where
  made_split t i zero k = rw (zero-add, add-zero)
  made_split t i (suc m) k = rw (suc-add, made_split t (suc i) m k, suc-add, ← add-suc) (sym (append_assoc (if t i then new_units p i else []) (made_where p t (suc i) m) _))

  made-first : (t : ℕ → Bool) (i k : ℕ) → made_where p t i k ≡ made_where p t (first t i k) (i + k - first t i k)
  unfolding made_where
  made-first t i zero = let e : i + 0 - i ≡ 0 = omega arith in rw e
  made-first t i (suc k) = go (made-first t (suc i) k) (t i) refl
    where
      go : made_where p t (suc i) k ≡ made_where p t (first t (suc i) k) (suc i + k - first t (suc i) k) → (b : Bool) → t i ≡ b
          → (if t i then new_units p i else []) ++ made_where p t (suc i) k ≡ made_where p t (if t i then i else first t (suc i) k) (i + suc k - (if t i then i else first t (suc i) k))
      go r true e = let d : i + suc k - i ≡ suc k = omega arith in rw (e, d, e)
      go r false e = let d : i + suc k ≡ suc i + k = omega arith in rw (e, d) r

  pub made_from : (t : ℕ → Bool) (i j n : ℕ) → i ≤ n → j ≤ n → first t i (n - i) ≡ first t j (n - j) → made_where p t i (n - i) ≡ made_where p t j (n - j)
  made_from t i j n h l e =
      let a : i + (n - i) ≡ n = omega arith in
      let b : j + (n - j) ≡ n = omega arith in
      rw a at (made-first t i (n - i)) ∙ rw e (sym (rw b at (made-first t j (n - j))))
